-- Texts and scripts that are built by appending.
use Rattle.std.proofs.Common.{◌≡◌, ℕ, zero, suc, ◌+◌, List, [], ◌∷◌, ◌++◌, map, ap, sym, ◌∙◌, arith}
use Rattle.std.specs.Prelude.{codes}
use Rattle.std.specs.List.{flat_map, range_with_len}
use Rattle.std.proofs.lemmas.Grind.{flat_map-append}
use Rattle.std.proofs.lemmas.List.{append_assoc, append-nil, map-append}
use Rattle.clay_script.specs.declared.commands.Command.{Command}
use Rattle.demo.specs.declared.summaries.Counts.{Counts}
use Rattle.demo.specs.Inputs.{assignment_line, demo_text, loop_lines, shift_of}
use Rattle.demo.specs.Summaries.{count_line, summary, systems_line}

pub joined_two : (t0 t1 t2 a b : List ℕ) → t1 ≡ t0 ++ a → t2 ≡ t1 ++ b → t2 ≡ t0 ++ (a ++ b)
joined_two t0 t1 t2 a b p q = q ∙ ap (λ t. t ++ b) p ∙ append_assoc t0 a b

joined_three : (t0 t1 t2 t3 a b d : List ℕ) → t0 ≡ [] → t1 ≡ t0 ++ a → t2 ≡ t1 ++ b → t3 ≡ t2 ++ d → t3 ≡ a ++ (b ++ d)
joined_three t0 t1 t2 t3 a b d o p q r =
    let first : t1 ≡ a = p ∙ ap (λ t. t ++ a) o in
    r ∙ ap (λ t. t ++ d) (q ∙ ap (λ t. t ++ b) first) ∙ append_assoc a b d

-- the whole text
pub text_made : (t0 t1 t2 t3 : List ℕ) (k : ℕ) → t0 ≡ [] → t1 ≡ t0 ++ codes "#pragma scop\n" → t2 ≡ t1 ++ flat_map loop_lines (range_with_len 0 k)
    → t3 ≡ t2 ++ codes "#pragma endscop\n" → t3 ≡ demo_text k
unfolding demo_text
text_made t0 t1 t2 t3 k o p q r = joined_three t0 t1 t2 t3 (codes "#pragma scop\n") (flat_map loop_lines (range_with_len 0 k)) (codes "#pragma endscop\n") o p q r

-- the lines of one loop
pub loop_pushed : (t0 t1 t2 : List ℕ) (k : ℕ) → t1 ≡ t0 ++ codes "for (i = 1; i < N - 1; i++)\n" → t2 ≡ t1 ++ assignment_line k → t2 ≡ t0 ++ loop_lines k
unfolding loop_lines
loop_pushed t0 t1 t2 k p q = joined_two t0 t1 t2 (codes "for (i = 1; i < N - 1; i++)\n") (assignment_line k) p q

-- one number more at the end of a range
range_more : (a n : ℕ) → range_with_len a (suc n) ≡ range_with_len a n ++ (a + n) ∷ []
range_more a zero = let same : a ≡ a + 0 = omega arith in ap (λ x. x ∷ []) same
range_more a (suc n) =
    let same : a + 1 + n ≡ a + suc n = omega arith in
    ap (λ t. a ∷ t) (range_more (a + 1) n ∙ ap (λ x. range_with_len (a + 1) n ++ x ∷ []) same)

next : (a k : ℕ) → range_with_len a (k + 1) ≡ range_with_len a k ++ (a + k) ∷ []
next a k = let count : k + 1 ≡ suc k = omega arith in ap (range_with_len a) count ∙ range_more a k

-- the loop after the first k
pub next_loop : (t0 t1 t2 : List ℕ) (k : ℕ) → t1 ≡ t0 ++ flat_map loop_lines (range_with_len 0 k) → t2 ≡ t1 ++ loop_lines k
    → t2 ≡ t0 ++ flat_map loop_lines (range_with_len 0 (k + 1))
next_loop t0 t1 t2 k p q =
    let place : 0 + k ≡ k = omega arith in
    let one : flat_map loop_lines ((0 + k) ∷ []) ≡ loop_lines k = append-nil (loop_lines (0 + k)) ∙ ap loop_lines place in
    joined_two t0 t1 t2 (flat_map loop_lines (range_with_len 0 k)) (loop_lines k) p q
    ∙ ap (λ t. t0 ++ (flat_map loop_lines (range_with_len 0 k) ++ t)) (sym one)
    ∙ ap (λ t. t0 ++ t) (sym (ap (flat_map loop_lines) (next 0 k) ∙ flat_map-append loop_lines (range_with_len 0 k) ((0 + k) ∷ [])))

-- the shift after the first k
pub next_shift : (t0 t1 t2 : List Command) (k : ℕ) → t1 ≡ t0 ++ map shift_of (range_with_len 1 k) → t2 ≡ t1 ++ shift_of (k + 1) ∷ []
    → t2 ≡ t0 ++ map shift_of (range_with_len 1 (k + 1))
next_shift t0 t1 t2 k p q =
    let place : k + 1 ≡ 1 + k = omega arith in
    q ∙ ap (λ t. t ++ shift_of (k + 1) ∷ []) p ∙ append_assoc t0 (map shift_of (range_with_len 1 k)) (shift_of (k + 1) ∷ [])
    ∙ ap (λ x. t0 ++ (map shift_of (range_with_len 1 k) ++ shift_of x ∷ [])) place
    ∙ ap (λ t. t0 ++ t) (sym (ap (map shift_of) (next 1 k) ∙ map-append shift_of (range_with_len 1 k) ((1 + k) ∷ [])))

-- five texts, one after the other
joined_five : (t0 t1 t2 t3 t4 t5 a b d e f : List ℕ) → t0 ≡ [] → t1 ≡ t0 ++ a → t2 ≡ t1 ++ b → t3 ≡ t2 ++ d → t4 ≡ t3 ++ e → t5 ≡ t4 ++ f
    → t5 ≡ a ++ (b ++ (d ++ (e ++ f)))
joined_five t0 t1 t2 t3 t4 t5 a b d e f o p q r s u =
    let last : t5 ≡ t3 ++ (e ++ f) = joined_two t3 t4 t5 e f s u in
    let more : t5 ≡ t2 ++ (d ++ (e ++ f)) = joined_two t2 t3 t5 d (e ++ f) r last in
    joined_three t0 t1 t2 t5 a b (d ++ (e ++ f)) o p q more

-- the whole summary
pub summary_made : (t0 t1 t2 t3 t4 t5 : List ℕ) (n : Counts) → t0 ≡ [] → t1 ≡ t0 ++ count_line (codes "demo ") n.loops (codes "\n")
    → t2 ≡ t1 ++ count_line (codes "statements ") n.statements (codes "\n") → t3 ≡ t2 ++ systems_line n.systems
    → t4 ≡ t3 ++ count_line (codes "clay commands ") n.commands (codes " accepted\n")
    → t5 ≡ t4 ++ count_line (codes "chlore commands ") n.recovered (codes "\n") → t5 ≡ summary n
unfolding summary
summary_made t0 t1 t2 t3 t4 t5 n o p q r s u =
    joined_five t0 t1 t2 t3 t4 t5 (count_line (codes "demo ") n.loops (codes "\n")) (count_line (codes "statements ") n.statements (codes "\n")) (systems_line n.systems)
    (count_line (codes "clay commands ") n.commands (codes " accepted\n")) (count_line (codes "chlore commands ") n.recovered (codes "\n")) o p q r s u
