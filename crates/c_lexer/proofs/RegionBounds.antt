-- What the lines that were found say of the region.
use Rattle.std.proofs.Common.{◌≡◌, ℕ, ◌+◌, ◌≤◌, Bool, List, length, Some, None, Ok, ap, sym, ◌∙◌, arith, refl}
use Rattle.suite_base.specs.Lines.{lines}
use Rattle.c_lexer.specs.declared.regions.Standing as code
use Rattle.c_lexer.specs.declared.pragmas.Pragma.TheVariants.{Scop, Endscop}
use Rattle.c_lexer.specs.Pragmas.{is_pragma}
use Rattle.suite_base.specs.Places.{place_at}
use Rattle.c_lexer.specs.Regions.{first_line, seen, region_of, region_from, region_between}
use Rattle.c_lexer.proofs.RegionLemmas.{Counts, counts, bytes_within, bytes_over}
use Rattle.c_lexer.proofs.PlaceLemmas.{placed, place_of, place_is}

pub record OneBound (bytes : List ℕ) (s : code.Standing) : Type 0 where
  pub rest : length s.rest ≤ length bytes
  pub line : s.lines_before ≤ length bytes

pub one_bound : (bytes b : List ℕ) (s : code.Standing) → b ≡ bytes → first_line (is_pragma Scop) (lines b) ≡ Some (seen s) → OneBound bytes s
one_bound bytes b s q e =
    let k : Counts (lines b) (seen s) = counts (is_pragma Scop) (lines b) (seen s) e in
    let w = bytes_within b in
    let v = bytes_over s.rest in
    let n = ap length q in
    record { rest = omega (arith, k.whole, k.before, k.few); line = omega (arith, k.whole, k.before, k.few) }

pub record TwoBounds (bytes : List ℕ) (s u : code.Standing) : Type 0 where
  pub line : s.lines_before + u.lines_before + 1 ≤ length bytes
  pub first : s.lines_before + 1 ≤ length bytes
  pub from : s.past ≤ length bytes
  pub to : s.past + u.at ≤ length bytes

pub two_bounds : (goes : List ℕ → Bool) (bytes b : List ℕ) (s u : code.Standing) → b ≡ bytes → first_line (is_pragma Scop) (lines b) ≡ Some (seen s)
    → first_line goes (lines s.rest) ≡ Some (seen u) → TwoBounds bytes s u
two_bounds goes bytes b s u q e f =
    let k : Counts (lines b) (seen s) = counts (is_pragma Scop) (lines b) (seen s) e in
    let j : Counts (lines s.rest) (seen u) = counts goes (lines s.rest) (seen u) f in
    let w = bytes_within b in
    let n = ap length q in
    record {
      line = omega (arith, k.whole, k.before, k.few, j.whole, j.before, j.few);
      first = omega (arith, k.whole, k.before, k.few, j.whole, j.before, j.few);
      from = omega (arith, k.whole, k.before, k.few, j.whole, j.before, j.few);
      to = omega (arith, k.whole, k.before, k.few, j.whole, j.before, j.few);
    }

pub region_is : (bytes b : List ℕ) (s u : code.Standing) → b ≡ bytes → first_line (is_pragma Scop) (lines b) ≡ Some (seen s)
    → first_line (is_pragma Endscop) (lines s.rest) ≡ Some (seen u) → first_line (is_pragma Scop) (lines s.rest) ≡ None
    → Ok (record { from = s.past; to = s.past + u.at; first = record { line = s.lines_before + 2; column = 1 } }) ≡ region_of bytes
region_is bytes b s u q e f g =
    sym (ap region_of (sym q) ∙ (ap region_from e ∙ (ap (λ x. region_between (seen s) x (first_line (is_pragma Scop) (lines s.rest))) f ∙ ap (λ x. region_between (seen s) (Some (seen u)) x) g)))

pub region_placed : (bytes b : List ℕ) (s : code.Standing) → b ≡ bytes → first_line (is_pragma Scop) (lines b) ≡ Some (seen s)
    → s.past ≤ length bytes → place_of (s.lines_before + 2) 1 ≡ place_at bytes s.past
region_placed bytes b s q e h =
    let h2 : s.past ≤ length b = rw q h in
    let p = placed (is_pragma Scop) (lines b) 1 b (seen s) refl e h2 in
    place_is (s.lines_before + 2) (1 + s.lines_before + 1) 1 1 (omega arith) refl ∙ (sym p ∙ ap (λ x. place_at x s.past) q)
