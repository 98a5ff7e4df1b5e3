-- The C text of a demo, and the script that is applied to its SCoP.
use Rattle.std.specs.Prelude.{ℕ, pos, ◌+◌, ◌-◌, List, [], ◌∷◌, ◌++◌, codes, map, replicate}
use Rattle.std.specs.List.{flat_map, range_with_len}
use Rattle.std.specs.Fmt.{decimal}
use Rattle.clay_script.specs.declared.commands.Command.{Command}
use Rattle.clay_script.specs.declared.commands.Command.TheVariants.{Fuse, Shift}

-- the name of array k
unfoldable pub array_name : ℕ → List ℕ
array_name k = codes "A" ++ decimal k

-- the line that sets an element of array k + 1 to the sum of its two neighbours in array k
unfoldable pub assignment_line : ℕ → List ℕ
assignment_line k =
    codes "  " ++ (array_name (k + 1) ++ (codes "[i] = " ++ (array_name k ++ (codes "[i-1] + " ++ (array_name k ++ codes "[i+1];\n")))))

-- the two lines of a loop that does so for each inner element
unfoldable pub loop_lines : ℕ → List ℕ
loop_lines k = codes "for (i = 1; i < N - 1; i++)\n" ++ assignment_line k

-- the region of k such loops, each of which reads what the one before it writes
unfoldable pub demo_text : ℕ → List ℕ
demo_text k = codes "#pragma scop\n" ++ (flat_map loop_lines (range_with_len 0 k) ++ codes "#pragma endscop\n")

-- the loop at place k, from 0, begins k later
abbrev pub shift_of : ℕ → Command
shift_of k = Shift (pos k ∷ []) (pos 1) (pos 0 ∷ []) (pos k)

-- the loop at place 0 takes in the next one
abbrev pub fuse_next : Command
fuse_next = Fuse (pos 0 ∷ [])

-- the script that shifts each of k loops behind the ones that it reads from, and fuses all into one
unfoldable pub demo_script : ℕ → List Command
demo_script k = map shift_of (range_with_len 1 (k - 1)) ++ replicate (k - 1) fuse_next
