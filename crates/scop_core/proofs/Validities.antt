-- What stays true of a SCoP when an extension takes the place of others.
use Rattle.std.proofs.Common.{◌≡◌, ℕ, Bool, true, false, ◌&&◌, List, [], ◌∷◌, ◌++◌, refl, ap, sym, subst, if◌then◌else◌}
use Rattle.std.specs.Str.{bytes_eq}
use Rattle.scop_data.specs.declared.statements.Extension.{Extension}
use Rattle.scop_data.specs.declared.raw_pieces.ScopPieces.{ScopPieces}
use Rattle.scop_data.specs.ScopData.{ScopData, others, extended}
use Rattle.scop_core.specs.Printable.{IsPrintable, arrays_name, is_kept, are_kept}
use Rattle.scop_core.specs.Validity.{IsAssembled, IsValid}
use Rattle.schedule_forms.proofs.SolvedShapes.{both}

pub both_hold : (a b : Bool) → a ≡ true → b ≡ true → (a && b) ≡ true
both_hold a b e f = rw e f

others_kept : (other name : List ℕ) (xs : List Extension) → are_kept other xs ≡ true → are_kept other (others name xs) ≡ true
others_kept other name [] h = refl
others_kept other name (x ∷ xs) h =
    let parts = both (is_kept other x) (are_kept other xs) h in
    let rest : are_kept other (others name xs) ≡ true = others_kept other name xs parts.1 in
    elim (bytes_eq x.name name) as (λ t. are_kept other (if t then others name xs else x ∷ others name xs) ≡ true)
    [ true ↦ rest | false ↦ both_hold _ _ parts.0 rest ]

last_kept : (other : List ℕ) (xs : List Extension) (e : Extension) → are_kept other xs ≡ true → is_kept other e ≡ true → are_kept other (xs ++ e ∷ []) ≡ true
last_kept other [] e h k = both_hold _ _ k refl
last_kept other (x ∷ xs) e h k =
    let parts = both (is_kept other x) (are_kept other xs) h in both_hold _ _ parts.0 (last_kept other xs e parts.1 k)

-- the pieces with this extension last, in place of those of its name
abbrev pieces_with : ScopPieces → Extension → ScopPieces
pieces_with pieces e = record pieces { extensions = others e.name pieces.extensions ++ e ∷ [] }

with_printable : (pieces : ScopPieces) (e : Extension) → is_kept arrays_name e ≡ true → IsPrintable pieces → IsPrintable (pieces_with pieces e)
with_printable pieces e k p = record {
  language = p.language;
  context = p.context;
  names = p.names;
  name_count = p.name_count;
  shapes = p.shapes;
  statements = p.statements;
  arrays = p.arrays;
  extensions = last_kept arrays_name (others e.name pieces.extensions) e (others_kept arrays_name e.name pieces.extensions p.extensions) k;
}

with_assembled : (scop : ScopData) (e : Extension) → is_kept arrays_name e ≡ true → IsAssembled scop → IsAssembled (extended scop e)
with_assembled scop e k a = record {
  pieces = pieces_with a.pieces e;
  printable = with_printable a.pieces e k a.printable;
  accepted = a.accepted;
  held = record { context = a.held.context; statements = a.held.statements; arrays = a.held.arrays };
  is_theirs = ap (λ s. extended s e) a.is_theirs;
}

-- a valid SCoP with an extension that can be printed is valid
pub extended_valid : (scop : ScopData) (e : Extension) (extensions : List Extension) → extensions ≡ others e.name scop.extensions ++ e ∷ []
    → is_kept arrays_name e ≡ true → IsValid scop → IsValid (record scop { extensions = extensions })
extended_valid scop e extensions is k v =
    let P : List Extension → Type 0 = λ xs. IsValid (record scop { extensions = xs }) in
    let made : IsValid (extended scop e) = record { statements = v.statements; assembled = with_assembled scop e k v.assembled } in
    subst P (sym is) made
