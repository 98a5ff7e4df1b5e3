-- Pairs in kept systems: dropped systems hold none.
use Rattle.std.proofs.Common.{◌≡◌, inl, inr, ℤ, List, [], ◌∷◌, refl, sym, subst}
use Rattle.std.specs.Prelude.{Option, Some, None}
use Rattle.relation_core.specs.Systems.{System}
use Rattle.relation_core.proofs.Points.{members_are_points}
use Rattle.scop_core.specs.Sequences.{In}
use Rattle.scop_core.specs.Meaning.{Instance}
use Rattle.dependence_systems.specs.declared.dependences.Dep.{Dep}
use Rattle.dependence_systems.specs.Sides.{Side, own_sides}
use Rattle.dependence_systems.specs.Entries.{entries}
use Rattle.dependence_systems.specs.Systems.{system_of}
use Rattle.dependence_systems.specs.Pairs.{LiesInEntry}
use Rattle.dependence_systems.proofs.ScopPairs as pairs
use Rattle.dependence_blocks.specs.Conflicts.{IsSound, AreSound, LiesInKept, KeptSystemsHoldConflicts}

-- a system that holds a pair has a rational point, so that it is kept
kept : (context : System) (sides : List Side) (n : List ℤ) (e : Dep) (verdict : Option (List ℤ)) (a b : Instance)
    → IsSound (system_of context sides e) verdict → LiesInEntry context sides n e a b → verdict ≡ None
kept context sides n e None a b sound pair = refl
kept context sides n e (Some certificate) a b sound pair =
    let p = members_are_points (system_of context sides e) a.values b.values n pair.lies in
    absurd (sound p.at p.factor p.length_is p.point)

-- a pair that lies in the system of a listed entry lies in a kept one
found : (context : System) (sides : List Side) (n : List ℤ) (list : List Dep) (verdicts : List (Option (List ℤ))) (a b : Instance) (e : Dep)
    → AreSound context sides list verdicts → In e list → LiesInEntry context sides n e a b → LiesInKept context sides n list verdicts a b
found context sides n [] verdicts a b e sound listed pair = absurd listed
found context sides n (d ∷ list) [] a b e sound listed pair = absurd sound
found context sides n (d ∷ list) (v ∷ verdicts) a b e sound listed pair =
    elim listed [
      | inl same ↦
          let here : LiesInEntry context sides n d a b = subst (λ x. LiesInEntry context sides n x a b) (sym same) pair in
          inl (kept context sides n d v a b sound.0 here, here)
      | inr more ↦ inr (found context sides n list verdicts a b e sound.1 more pair)
    ]

-- and back
listed_one : (context : System) (sides : List Side) (n : List ℤ) (list : List Dep) (verdicts : List (Option (List ℤ))) (a b : Instance)
    → LiesInKept context sides n list verdicts a b → (e : Dep) × In e list × LiesInEntry context sides n e a b
listed_one context sides n [] verdicts a b lies = absurd lies
listed_one context sides n (d ∷ list) [] a b lies = absurd lies
listed_one context sides n (d ∷ list) (v ∷ verdicts) a b lies =
    elim lies [
      | inl here ↦ (d, inl refl, here.1)
      | inr more ↦ let m = listed_one context sides n list verdicts a b more in (m.0, inr m.1, m.2)
    ]

pub kept_hold_conflicts : KeptSystemsHoldConflicts
kept_hold_conflicts S valid verdicts sound n within a b =
    let law = pairs.systems_hold_conflicts S valid n within a b in
    let list = entries (own_sides S) in (
      λ lies. let m = listed_one S.context (own_sides S) n list verdicts a b lies in law.0 (record { entry = m.0; listed = m.1; pair = m.2 }),
      λ conflict. let l = law.1 conflict in found S.context (own_sides S) n list verdicts a b l.entry sound l.listed l.pair,
    )
