-- The pieces of a SCoP with other statements.
use Rattle.std.proofs.Common.{◌≡◌, ℕ, Some, None, Result, List, [], ◌∷◌, map, refl, ap, sym, ◌∙◌, subst}
use Rattle.std.specs.Prelude.{IfOk}
use Rattle.suite_base.specs.declared.memory.NoMemory.{NoMemory}
use Rattle.suite_base.specs.declared.refusals.Refusal.{Refusal}
use Rattle.suite_base.specs.declared.refusals.Fail.TheVariants.{Refused}
use Rattle.scop_data.specs.declared.raw_pieces.RawStatement.{RawStatement}
use Rattle.scop_data.specs.declared.raw_pieces.ScopPieces.{ScopPieces}
use Rattle.scop_core.specs.ScopData.{ScopData}
use Rattle.scop_core.specs.Assembly.{refusal_of, HasCause}
use Rattle.scop_core.specs.ReadBack.{ReadBack, statement_pieces, pieces_of}
use Rattle.clay_commands.specs.Drafts.{Draft}
use Rattle.clay_commands.specs.Afters.{closed_leaf, closed}
use Rattle.clay_commands.specs.Soundness.{raw_of}

-- the pieces of S with these statements and no extensions
abbrev pub with_raws : ScopData → List RawStatement → ScopPieces
with_raws S raws = record { language = S.language; context = S.context; parameters = S.parameters; statements = raws; arrays = S.arrays; extensions = [] }

raws_are : (p : ℕ) (D : Draft) → map (raw_of p) D ≡ map (statement_pieces p) (map closed_leaf D)
raws_are p [] = refl
raws_are p (leaf ∷ D) = ap (λ t. raw_of p leaf ∷ t) (raws_are p D)

pub closed_pieces_are : (S : ScopData) (D : Draft) (p : ℕ) (raws : List RawStatement) (r : Result ScopPieces NoMemory) → raws ≡ map (raw_of p) D → p ≡ S.context.shape.parameters
    → IfOk r (λ q. q ≡ with_raws S raws) → IfOk r (λ q. q ≡ pieces_of (closed S D))
closed_pieces_are S D p raws r e n h =
    let same : with_raws S raws ≡ pieces_of (closed S D) = ap (with_raws S) (e ∙ ap (λ m. map (raw_of m) D) n ∙ raws_are S.context.shape.parameters D) in
    subst (λ t. IfOk r (λ q. q ≡ t)) same h

pub no_refusal : (S : ScopData) (pieces : ScopPieces) (r : Refusal) → pieces ≡ pieces_of S → ReadBack S → HasCause (refusal_of pieces) (Refused r) → ⊥
no_refusal S pieces r e back h = let both : None ≡ Some r = sym back.unrefused ∙ sym (ap refusal_of e) ∙ h in cc
