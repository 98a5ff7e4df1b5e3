-- Demos of one loop, of two loops and of four.
use Rattle.std.proofs.Common.{◌≡◌, [], ◌∷◌, length, refl}
use Rattle.std.specs.Prelude.{pos, codes}
use Rattle.std.specs.Fmt.{digits}
use Rattle.clay_script.specs.declared.commands.Command.TheVariants.{Fuse, Shift}
use Rattle.demo.specs.Inputs.{array_name, assignment_line, demo_script, demo_text, loop_lines}
use Rattle.demo.specs.Summaries.{count_line, summary, systems_line}

one_loop : demo_text 1 ≡ codes "#pragma scop\nfor (i = 1; i < N - 1; i++)\n  A1[i] = A0[i-1] + A0[i+1];\n#pragma endscop\n"
unfolding digits array_name assignment_line loop_lines count_line systems_line demo_text summary
one_loop = refl

bytes_of_one : length (demo_text 1) ≡ 86
unfolding digits array_name assignment_line loop_lines count_line systems_line demo_text summary
bytes_of_one = refl

bytes_of_two : length (demo_text 2) ≡ 143
unfolding digits array_name assignment_line loop_lines demo_text
bytes_of_two = refl

bytes_of_ten : length (demo_text 10) ≡ 600
unfolding digits array_name assignment_line loop_lines demo_text
bytes_of_ten = refl

bytes_of_all : length (demo_text 32) ≡ 1920
unfolding digits array_name assignment_line loop_lines count_line systems_line demo_text summary
bytes_of_all = refl

tenth : loop_lines 9 ≡ codes "for (i = 1; i < N - 1; i++)\n  A10[i] = A9[i-1] + A9[i+1];\n"
unfolding digits array_name assignment_line loop_lines count_line systems_line demo_text summary
tenth = refl

no_commands : demo_script 1 ≡ []
unfolding demo_script
no_commands = refl

two_commands : demo_script 2 ≡ Shift (pos 1 ∷ []) (pos 1) (pos 0 ∷ []) (pos 1) ∷ (Fuse (pos 0 ∷ []) ∷ [])
unfolding demo_script
two_commands = refl

four_lines : summary (record { loops = 4; statements = 4; systems = record { all = 10; kept = 6; dropped = 4 }; commands = 6; recovered = 6 })
    ≡ codes "demo 4\nstatements 4\nsystems 10 kept 6 dropped 4\nclay commands 6 accepted\nchlore commands 6\n"
unfolding digits array_name assignment_line loop_lines count_line systems_line demo_text summary
four_lines = refl
