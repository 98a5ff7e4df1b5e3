-- The systems of a list are decided one after the other; the block of what was decided is the block of the verdicts.
use Rattle.std.proofs.Common.{◌≡◌, ℕ, ◌≤◌, ℤ, List, [], ◌∷◌, ◌++◌, length, refl, ap, sym, ◌∙◌, subst, arith}
use Rattle.std.specs.Fmt.{decimal}
use Rattle.relation_core.specs.Systems.{System}
use Rattle.scop_core.specs.ScopData.{ScopData}
use Rattle.dependence_systems.specs.declared.dependences.Dep.{Dep}
use Rattle.dependence_systems.specs.Sides.{Side, own_sides}
use Rattle.dependence_systems.specs.Entries.{entries}
use Rattle.dependence_systems.specs.Systems.{system_of}
use Rattle.dependence_blocks.specs.Blocks.{entry_lines, lines_of, block_lines, block_of}
use Rattle.dependence_blocks.specs.KeptLines.{IsReadable}
use Rattle.candl_deps.specs.declared.held.Decided.{Decided}
use Rattle.candl_deps.specs.declared.held.Dependences.{Dependences}
use Rattle.candl_deps.specs.Decisions.{IsRight, AreRight, AreReadable, AreLight, lines_with}
use Rattle.candl_deps.specs.Found.{IsFound, AreDecided, IsPushed, AreDependences, verdicts_of, found_lines, found_block, FoundBlocksAreBlocks}

joined : (context : System) (sides : List Side) (xs : List Dep) (e : Dep) (decided : List Decided) (one : Decided)
    → AreDecided context sides xs decided → IsFound context sides e one → AreDecided context sides (xs ++ e ∷ []) (decided ++ one ∷ [])
joined context sides [] e [] one d f = (f, tt)
joined context sides [] e (y ∷ decided) one d f = absurd d
joined context sides (x ∷ xs) e [] one d f = absurd d
joined context sides (x ∷ xs) e (y ∷ decided) one d f = (d.0, joined context sides xs e decided one d.1 f)

pub decided_more : (context : System) (sides : List Side) (xs : List Dep) (e : Dep) (old new : List Decided)
    → AreDecided context sides xs old → IsPushed context sides e old new → AreDecided context sides (xs ++ e ∷ []) new
decided_more context sides xs e old new d p =
    subst (λ (t : List Decided). AreDecided context sides (xs ++ e ∷ []) t) (sym p.is) (joined context sides xs e old p.one d p.found)

pub decided_light : (context : System) (sides : List Side) (xs : List Dep) (decided : List Decided) → AreDecided context sides xs decided → AreLight context sides xs
decided_light context sides [] [] d = tt
decided_light context sides [] (y ∷ decided) d = absurd d
decided_light context sides (x ∷ xs) [] d = absurd d
decided_light context sides (x ∷ xs) (y ∷ decided) d = (d.0.decided.light, decided_light context sides xs decided d.1)

decided_right : (context : System) (sides : List Side) (xs : List Dep) (decided : List Decided) → AreDecided context sides xs decided
    → AreRight context sides xs (verdicts_of decided)
decided_right context sides [] [] d = tt
decided_right context sides [] (y ∷ decided) d = absurd d
decided_right context sides (x ∷ xs) [] d = absurd d
decided_right context sides (x ∷ xs) (y ∷ decided) d =
    (subst (λ s. IsRight s y.certificate) d.0.decided.system_is d.0.decided.right, decided_right context sides xs decided d.1)

decided_readable : (context : System) (sides : List Side) (xs : List Dep) (decided : List Decided) → AreDecided context sides xs decided
    → AreReadable context sides xs (verdicts_of decided)
decided_readable context sides [] [] d = tt
decided_readable context sides [] (y ∷ decided) d = absurd d
decided_readable context sides (x ∷ xs) [] d = absurd d
decided_readable context sides (x ∷ xs) (y ∷ decided) d =
    (subst (λ s. IsReadable x s y.certificate) d.0.decided.system_is d.0.readable, decided_readable context sides xs decided d.1)

decided_lines : (context : System) (sides : List Side) (xs : List Dep) (decided : List Decided) → AreDecided context sides xs decided
    → found_lines xs decided ≡ lines_of context sides xs (verdicts_of decided)
decided_lines context sides [] [] d = refl
decided_lines context sides [] (y ∷ decided) d = absurd d
decided_lines context sides (x ∷ xs) [] d = absurd d
decided_lines context sides (x ∷ xs) (y ∷ decided) d =
    ap (λ s. entry_lines x s y.certificate ++ found_lines xs decided) d.0.decided.system_is
    ∙ ap (λ t. entry_lines x (system_of context sides x) y.certificate ++ t) (decided_lines context sides xs decided d.1)

pub found_blocks_are_blocks : FoundBlocksAreBlocks
found_blocks_are_blocks S found a =
    let verdicts = verdicts_of found.decided in
    let own = λ (list : List Dep). AreDecided S.context (own_sides S) list found.decided in
    let d = subst own a.list a.decided in
    let same : found_block found ≡ lines_with S verdicts =
    ap (λ (list : List Dep). decimal (length list) ∷ found_lines list found.decided) a.list
    ∙ ap (λ t. decimal (length (entries (own_sides S))) ∷ t) (decided_lines S.context (own_sides S) (entries (own_sides S)) found.decided d) in
    record {
      verdicts = verdicts;
      are = record {
        few = a.few;
        light = decided_light S.context (own_sides S) (entries (own_sides S)) found.decided d;
        right = decided_right S.context (own_sides S) (entries (own_sides S)) found.decided d;
        readable = decided_readable S.context (own_sides S) (entries (own_sides S)) found.decided d;
      };
      is = ap block_of same;
    }

-- nothing is printed where nothing is decided
pub none_found : (xs : List Dep) (decided : List Decided) → length decided ≤ 0 → found_lines xs decided ≡ []
none_found [] decided h = refl
none_found (x ∷ xs) [] h = refl
none_found (x ∷ xs) (y ∷ decided) h = absurd (omega arith)
