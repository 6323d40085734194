use Rattle.std.proofs.Common.{◌≡◌, ℕ, ◌+◌, ◌<◌, Option, Some, None, List, [], ◌∷◌, ◌++◌, length, length-append, refl, sym, ap, subst, ◌∙◌, append-nil, inl, arith}
use Rattle.std.specs.Prelude.{MatchOption}
use Rattle.std.proofs.lemmas.Grind.{common_steps}
use Rattle.tc_journal.specs.Line.{lines_text, told_line}
use Rattle.tc_journal.specs.Reading.{BeginsWith, Reads}
use Rattle.tc_journal.proofs.Histories.{at_start, none_ahead, none_begins, read_on, reads_history, lines_on, IsTold_push, line_some}
use Rattle.tc_journal.proofs.reading.read_lines.Given.{Over}
use Rattle.tc_journal.proofs.reading.read_lines.Goals as goal

-- where no first block was found, none begins the text
missing : {X : Type 0} (P : X → Type 0) (o : Option X) → o ≡ None → MatchOption o ⊥ P → ⊥
missing P o none m = subst (λ (x : Option _). MatchOption x ⊥ P) none m

-- the block that was found is the one that begins the text
only : {X : Type 0} (P : X → Type 0) (o : Option X) (x : X) → o ≡ Some x → MatchOption o ⊥ P → P x
only P o x is m = subst (λ (y : Option _). MatchOption y ⊥ P) is m

pub loop-rest-init : goal.loop-rest-init
loop-rest-init g c = rw (c.new-blocks.ensures.items) record {
  history = tt;
  lines = refl;
  ahead = at_start g.B.Form.told c.args.bytes.now;
}

begins-none : (g : Over) (c : goal.After-drop-blocks g) (b : g.row.B.Denot) → BeginsWith c.loop-rest.rest.now (length c.loop-rest.blocks.items) (g.B.Form.told b) → ⊥
begins-none g c b begins =
    let stamp : c.len-stamp.result ≡ length c.loop-rest.blocks.items = grind (arith, common_steps) in
    missing _ _ c.in_default.is (c.first_block.ensures.every b (subst (λ n. BeginsWith c.loop-rest.rest.now n (g.B.Form.told b)) (sym stamp) begins))

pub returns-in_default-clause-line : goal.returns-in_default-clause-line
returns-in_default-clause-line g c = λ n e.
    let stamp : c.len-stamp.result ≡ length c.loop-rest.blocks.items = grind (arith, common_steps) in
    let some : 0 < length c.loop-rest.rest.now = grind (arith, common_steps) in
    record {
      before = c.loop-rest.blocks.items;
      left = c.loop-rest.rest.now;
      reads = record { history = c.loop-rest.invariant.history; lines = c.loop-rest.invariant.lines; stops = begins-none g c };
      some = λ none. absurd (omega (arith, ap length none, some));
      number = omega (arith, (let same : c.len-stamp.result + 1 ≡ n = cc in same));
    }

pub returns-in_default-clause-read_back : goal.returns-in_default-clause-read_back
returns-in_default-clause-read_back g c = λ h i.
    let some : 0 < length c.loop-rest.rest.now = grind (arith, common_steps) in
    let reads : Reads g.B.Form.told c.args.bytes.now h [] = reads_history g.B.Form.told c.args.bytes.now h i in
    let end = none_ahead g.B.Form.told _ _ _ h [] reads (c.loop-rest.invariant.ahead h [] reads) (begins-none g c) in
    absurd (omega (arith, ap length end.1, some))

pub returns-in_default-clause-wrong : goal.returns-in_default-clause-wrong
returns-in_default-clause-wrong g c = λ n w.
    let stamp : c.len-stamp.result ≡ length c.loop-rest.blocks.items = grind (arith, common_steps) in
    let end = none_ahead g.B.Form.told _ _ _ w.before w.left w.reads (c.loop-rest.invariant.ahead w.before w.left w.reads) (begins-none g c) in
    let number : c.len-stamp.result + 1 ≡ n = omega (arith, ap length end.0, w.number) in
    inl (rw number refl)

pub loop-rest-smaller : goal.loop-rest-smaller
loop-rest-smaller g c =
    let found = rw c.in-Some.is at c.first_block.ensures.some in
    let t = g.B.Form.told c.in-Some.block in
    omega (arith, ap length found.0.line, length-append (told_line t) found.0.more, line_some t, ap length found.1)

pub loop-rest-preserved : goal.loop-rest-preserved
loop-rest-preserved g c =
    let told = g.B.Form.told in
    let b : _ = c.in-Some.block in
    let blocks : List _ = c.loop-rest.blocks.items in
    let rest : List ℕ = c.loop-rest.rest.now in
    let stamp : c.len-stamp.result ≡ length blocks = grind (arith, common_steps) in
    let found = rw c.in-Some.is at c.first_block.ensures.some in
    let begins : BeginsWith rest (length blocks) (told b) =
    record { block = found.0.block; place = found.0.place ∙ stamp; more = c.in-Some.behind.now; line = found.0.line ∙ ap (λ t. told_line (told b) ++ t) found.1 } in
    let items : c.push.new.self.items ≡ blocks ++ b ∷ [] = grind (arith, common_steps) in
    rw items record {
      history = IsTold_push told blocks b c.loop-rest.invariant.history begins.block begins.place;
      lines = lines_on told c.args.bytes.now rest c.in-Some.behind.now blocks b c.loop-rest.invariant.lines begins.line;
      ahead = λ h left reads. read_on told c.args.bytes.now rest blocks h left b reads (c.loop-rest.invariant.ahead h left reads) begins
          (λ x other. only _ _ _ c.in-Some.is (c.first_block.ensures.every x (subst (λ n. BeginsWith rest n (told x)) (sym stamp) other)));
    }

pub returns-clause-ok : goal.returns-clause-ok
returns-clause-ok g c =
    let none : c.loop-rest.rest.now ≡ [] = grind (arith, common_steps) in
    record {
      history = c.loop-rest.invariant.history;
      lines = c.loop-rest.invariant.lines ∙ ap (λ t. lines_text g.B.Form.told c.loop-rest.blocks.items ++ t) none ∙ append-nil (lines_text g.B.Form.told c.loop-rest.blocks.items);
    }

pub returns-clause-read_back : goal.returns-clause-read_back
returns-clause-read_back g c = λ h i.
    let none : length c.loop-rest.rest.now ≡ 0 = grind (arith, common_steps) in
    let reads : Reads g.B.Form.told c.args.bytes.now h [] = reads_history g.B.Form.told c.args.bytes.now h i in
    sym (none_ahead g.B.Form.told _ _ _ h [] reads (c.loop-rest.invariant.ahead h [] reads) (λ b. none_begins c.loop-rest.rest.now _ (g.B.Form.told b) none)).0

pub returns-clause-wrong : goal.returns-clause-wrong
returns-clause-wrong g c = λ n w.
    let none : length c.loop-rest.rest.now ≡ 0 = grind (arith, common_steps) in
    let end = none_ahead g.B.Form.told _ _ _ w.before w.left w.reads (c.loop-rest.invariant.ahead w.before w.left w.reads) (λ b. none_begins c.loop-rest.rest.now _ (g.B.Form.told b) none) in
    let nothing : c.loop-rest.rest.now ≡ [] = grind (arith, common_steps) in
    absurd (w.some (sym end.1 ∙ nothing))
