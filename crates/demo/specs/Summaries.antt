-- The summary that a demo prints.
use Rattle.std.specs.Prelude.{ℕ, List, ◌++◌, codes}
use Rattle.std.specs.Fmt.{decimal}
use Rattle.demo.specs.declared.summaries.Counts.{Counts}
use Rattle.demo.specs.declared.summaries.SystemCounts.{SystemCounts}

-- the line of a count, with what stands before and behind it
unfoldable pub count_line : List ℕ → ℕ → List ℕ → List ℕ
count_line label n end = label ++ (decimal n ++ end)

-- the line of the systems
unfoldable pub systems_line : SystemCounts → List ℕ
systems_line s =
    codes "systems " ++ (decimal s.all ++ (codes " kept " ++ (decimal s.kept ++ (codes " dropped " ++ (decimal s.dropped ++ codes "\n")))))

-- the five lines of these counts
unfoldable pub summary : Counts → List ℕ
summary c =
    count_line (codes "demo ") c.loops (codes "\n")
    ++ (count_line (codes "statements ") c.statements (codes "\n")
    ++ (systems_line c.systems
    ++ (count_line (codes "clay commands ") c.commands (codes " accepted\n")
    ++ count_line (codes "chlore commands ") c.recovered (codes "\n"))))
