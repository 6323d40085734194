-- The summary of a demonstration, line by line. Each line ends with the byte 10.
use Rattle.std.specs.Prelude.{ℕ, List, [], ◌∷◌, ◌++◌, codes, decimal, length, sum_by}
use Rattle.std.specs.List.{flat_map, enumerate_from}
use Rattle.tc_context.specs.View.{PackageView}
use Rattle.tc_journal.specs.declared.block.Block.{Block}
use Rattle.tc_report.specs.Results.{Results, Finished}
use Rattle.tc_report.specs.Report.{status_text, finished_of, locks_text, last_line}

-- how many rounds the guest's threads have
unfoldable pub demo_line : ℕ → List ℕ
demo_line rounds = codes "tclocks demo " ++ decimal rounds ++ 10 ∷ []

-- how many blocks ran, and how many turns they had
unfoldable pub blocks_line : List Block → List ℕ
blocks_line history =
    codes "blocks " ++ decimal (length history) ++ codes " turns " ++ decimal (sum_by (λ b. b.turns) history) ++ 10 ∷ []

-- how a thread ended, and the fuel that was left
unfoldable pub end_line : ℕ × Finished → List ℕ
end_line t =
    codes "thread " ++ decimal t.0 ++ codes " " ++ status_text t.1.status ++ codes " fuel " ++ decimal t.1.fuel ++ 10 ∷ []

-- the lines of the threads, which are numbered from 0
abbrev pub ends_text : List Finished → List ℕ
ends_text threads = flat_map end_line (enumerate_from 0 threads)

-- the whole summary
unfoldable pub summary_text : ℕ → Results → List ℕ
summary_text rounds results =
    demo_line rounds ++ blocks_line results.history ++ ends_text results.threads ++ locks_text results.locks ++ last_line

-- the lines of the threads of all packages, which are numbered from 0
abbrev pub packages_ends : List PackageView → List ℕ
packages_ends packages = flat_map (λ (p : ℕ × PackageView). end_line (p.0, finished_of p.1)) (enumerate_from 0 packages)
