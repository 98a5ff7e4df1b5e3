-- What a SCoP means is in its statements, without their extensions.
use Rattle.std.proofs.Common.{◌≡◌, ◌≢◌, ℕ, ◌+◌, List, map, length, ℤ, Option, Some, None, refl, sym, ◌∙◌, ap, subst}
use Rattle.std.specs.Prelude.{◌↔◌, IsSomeAnd}
use Rattle.std.specs.Option.{option_map}
use Rattle.scop_data.specs.declared.statements.Statement.{Statement}
use Rattle.scop_data.specs.ScopData.{ScopData}
use Rattle.scop_data.specs.Order.{Before, IsPrefix}
use Rattle.scop_data.specs.Meaning.{Instance, statement_at, InDomain, IsInstance, stamp_in, stamp, event_in, event}
use Rattle.scop_data.specs.Theorems.{IsStatement, HasValidSchedules}
use Rattle.scop_data.specs.RunLaws.{KeepsMeaning}
use Rattle.scop_data.proofs.DenseRuns.{at_map}
use Rattle.scop_data.specs.MappedRuns.{bare, StatementsMeanAll, MeaningIsKeptOn}

bare_domain : (o : Option Statement) (x n : List ℤ) → IsSomeAnd (option_map bare o) (λ s. InDomain s x n) ↔ IsSomeAnd o (λ s. InDomain s x n)
bare_domain None x n = ((λ h. h), λ h. h)
bare_domain (Some s) x n = ((λ h. h), λ h. h)

bare_event : (o : Option Statement) (x n : List ℤ) → event_in (option_map bare o) x n ≡ event_in o x n
bare_event None x n = refl
bare_event (Some s) x n = refl

bare_stamp : (o : Option Statement) (x n : List ℤ) → stamp_in (option_map bare o) x n ≡ stamp_in o x n
bare_stamp None x n = refl
bare_stamp (Some s) x n = refl

-- the statement with a number, without its extensions
same_at : (T S : List Statement) → map bare T ≡ map bare S → (k : ℕ) → option_map bare (statement_at T k) ≡ option_map bare (statement_at S k)
same_at T S e k = sym (at_map bare T k) ∙ ap (λ statements. statement_at statements k) e ∙ at_map bare S k

pub keeps_meaning : (T S : ScopData) (n : List ℤ) → map bare T.statements ≡ map bare S.statements → KeepsMeaning T S n
keeps_meaning T S n e = record { instances = instances; events = events; order = order }
  where
    look : (k : ℕ) → option_map bare (statement_at T.statements k) ≡ option_map bare (statement_at S.statements k)
    look k = same_at T.statements S.statements e k

    events : (a : Instance) → event T n a ≡ event S n a
    events a = sym (bare_event (statement_at T.statements a.statement) a.values n) ∙ ap (λ o. event_in o a.values n) (look a.statement) ∙ bare_event (statement_at S.statements a.statement) a.values n

    stamps : (a : Instance) → stamp T n a ≡ stamp S n a
    stamps a = sym (bare_stamp (statement_at T.statements a.statement) a.values n) ∙ ap (λ o. stamp_in o a.values n) (look a.statement) ∙ bare_stamp (statement_at S.statements a.statement) a.values n

    instances : (a : Instance) → IsInstance T n a ↔ IsInstance S n a
    instances a =
        let t = bare_domain (statement_at T.statements a.statement) a.values n in
        let s = bare_domain (statement_at S.statements a.statement) a.values n in (
          (λ h. s.0 (subst (λ o. IsSomeAnd o (λ u. InDomain u a.values n)) (look a.statement) (t.1 h))),
          λ h. t.0 (subst (λ o. IsSomeAnd o (λ u. InDomain u a.values n)) (sym (look a.statement)) (s.1 h)),
        )

    order : (a b : Instance) → Before (stamp T n a) (stamp T n b) ↔ Before (stamp S n a) (stamp S n b)
    order a b = (
      (λ h. subst (λ w. Before (stamp S n a) w) (stamps b) (subst (λ w. Before w (stamp T n b)) (stamps a) h)),
      λ h. subst (λ w. Before (stamp T n a) w) (sym (stamps b)) (subst (λ w. Before w (stamp S n b)) (sym (stamps a)) h),
    )

-- a statement of the one SCoP with the schedule of a statement of the other
record Alike (o : Option Statement) (s : Statement) : Type 0 where
  statement : Statement
  is : o ≡ Some statement
  same : bare statement ≡ bare s

from_bare : (o : Option Statement) (s : Statement) → option_map bare o ≡ Some (bare s) → Alike o s
from_bare None s e = absurd (cc)
from_bare (Some t) s e = record { statement = t; is = refl; same = ap (λ u. held u) e }
  where
    held : Option Statement → Statement
    held None = bare s
    held (Some u) = u

alike : (T S : List Statement) → map bare T ≡ map bare S → (k : ℕ) (t : Statement) → IsStatement T k t → Alike (statement_at S k) t
alike T S e k t i = from_bare (statement_at S k) t (sym (same_at T S e k) ∙ ap (λ o. option_map bare o) i)

valid_over : (T S : List Statement) → map bare T ≡ map bare S → HasValidSchedules S → HasValidSchedules T
valid_over T S e v = record { sizes = λ k t i. size k t (alike T S e k t i); apart = λ j k s t i h d. no_prefix j k s t (alike T S e j s i) (alike T S e k t h) d }
  where
    size : (k : ℕ) (t : Statement) → Alike (statement_at S k) t → length t.schedule.betas ≡ length t.schedule.levels + 1
    size k t a = subst (λ u. length u.schedule.betas ≡ length u.schedule.levels + 1) a.same (v.sizes k a.statement a.is)

    no_prefix : (j k : ℕ) (s t : Statement) → Alike (statement_at S j) s → Alike (statement_at S k) t → j ≢ k → ¬ IsPrefix s.schedule.betas t.schedule.betas
    no_prefix j k s t a b d =
        subst (λ u. ¬ IsPrefix s.schedule.betas u.schedule.betas) b.same
        (subst (λ u. ¬ IsPrefix u.schedule.betas b.statement.schedule.betas) a.same (v.apart j k a.statement b.statement a.is b.is d))

pub statements_mean_all : StatementsMeanAll
statements_mean_all T S n e = (keeps_meaning T S n e, (valid_over S.statements T.statements (sym e), valid_over T.statements S.statements e))

pub meaning_is_kept_on : MeaningIsKeptOn
meaning_is_kept_on T S R n k l = record {
  instances = λ a. ((λ h. (l.instances a).0 ((k.instances a).0 h)), λ h. (k.instances a).1 ((l.instances a).1 h));
  events = λ a. k.events a ∙ l.events a;
  order = λ a b. ((λ h. (l.order a b).0 ((k.order a b).0 h)), λ h. (k.order a b).1 ((l.order a b).1 h));
}
