use Rattle.std.proofs.Common.{rules, ◌≡◌, Ok, Some, ap, ◌∙◌}
use Rattle.hex.specs.Hex.{decode_sized}
use Rattle.tc_journal.proofs.HexWord.{bytes, decoded, word_of_bytes}
use Rattle.tc_journal.proofs.spelling.hex_word.Goals as goal

pub returns-in_err-bytes : goal.returns-in_err-bytes
returns-in_err-bytes c = λ n small e.
    let read : c.from_hex.result ≡ Ok (bytes n) = c.from_hex.ensures ∙ ap (λ t. decode_sized t 4) e ∙ decoded n in
    search rules

pub returns : goal.returns
returns c = λ n small e.
    let read : c.from_hex.result ≡ Ok (bytes n) = c.from_hex.ensures ∙ ap (λ t. decode_sized t 4) e ∙ decoded n in
    let same : c.in_ok-bytes.bytes ≡ bytes n = search rules in
    ap Some (c.from_be_bytes.ensures ∙ rw same (word_of_bytes n small))
