-- The values of the levels after a command are those that the command makes of the values before; equal ones were equal before.
use Rattle.std.proofs.Common.{◌≡◌, ◌≢◌, ℕ, zero, suc, ◌+◌, ◌<◌, List, [], ◌∷◌, ◌++◌, length, map, set, ℤ, pos, neg_ℤ, ◌+ℤ◌, ◌*ℤ◌, refl, ap, sym, subst, ◌∙◌, arith}
use Rattle.std.specs.Prelude.{insert}
use Rattle.std.proofs.lemmas.Int.{ints}
use Rattle.std.proofs.lemmas.List.{map-set, get_or-map, length-map, length-append, length-replicate, append-nil}
use Rattle.std.proofs.lemmas.List.Edits.{swap_is}
use Rattle.row_core.specs.Rows.{entry, dot, add_rows, scale}
use Rattle.scop_data.specs.declared.affines.Affine.{Affine}
use Rattle.scop_data.specs.declared.schedules.Floor.{Floor}
use Rattle.scop_data.specs.declared.schedules.Schedule.{Schedule}
use Rattle.scop_core.specs.AffineSums.{plus_multiple, moved, negative, widened, last_floor}
use Rattle.scop_core.specs.Meaning.{affine_at, floor_of, floors_after, levels_at}
use Rattle.scop_core.specs.LevelOrder.{level_values}
use Rattle.scop_core.specs.SolvedRows.{zeros}
use Rattle.clay_script.specs.declared.commands.Command.{Command}
use Rattle.clay_script.specs.declared.commands.Command.TheVariants.{Fission, Fuse, Reorder, Interchange, Skew, Shift, Reverse, Stripmine, Tile, Iss}
use Rattle.clay_commands.specs.Arguments.{place}
use Rattle.clay_commands.specs.Drafts.{forms_after, form_at, no_form, cut, widened_floor}
use Rattle.clay_commands.specs.Spots.{values_after}
use Rattle.edit_laws.specs.Keeping.{FloorsGoOn}
use Rattle.edit_laws.proofs.Lists.{map_swap, map_insert, same_set, set_entries, set_elsewhere, swap_same, insert_same}
use Rattle.edit_laws.proofs.Rows.{widened_value, widened_level, last_value, floors_more, floors_count, sum_value, moved_value, negative_value}

-- each form has so many coefficients of floors
abbrev pub AreWide : ℕ → List Affine → Type 0
AreWide m [] = Unit {0}
AreWide m (form ∷ levels) = (length form.floors ≡ m) × AreWide m levels

-- the levels that a command names are there, and it does not add one to itself
abbrev pub IsWithin : Command → List Affine → Type 0
IsWithin (Interchange p k l) levels = (place k < length levels) × (place l < length levels)
IsWithin (Skew p k l f) levels = (place k < length levels) × (place l < length levels) × (place l ≢ place k)
IsWithin (Shift p k v c) levels = place k < length levels
IsWithin (Reverse p k) levels = place k < length levels
IsWithin (Stripmine p k s) levels = place k < length levels
IsWithin (Tile p k s t) levels = place k < length levels
IsWithin other levels = Unit {0}

-- sizes

wide_at : (m : ℕ) (levels : List Affine) (k : ℕ) → k < length levels → AreWide m levels → length (form_at levels k).floors ≡ m
wide_at m [] k l w = absurd (omega arith)
wide_at m (form ∷ levels) zero l w = w.0
wide_at m (form ∷ levels) (suc k) l w = wide_at m levels k (omega arith) w.1

wide_set : (m : ℕ) (levels : List Affine) (k : ℕ) (form : Affine) → AreWide m levels → length form.floors ≡ m → AreWide m (set levels k form)
wide_set m [] k form w e = tt
wide_set m (f ∷ levels) zero form w e = (e, w.1)
wide_set m (f ∷ levels) (suc k) form w e = (w.0, wide_set m levels k form w.1 e)

wide_insert : (m : ℕ) (levels : List Affine) (k : ℕ) (form : Affine) → AreWide m levels → length form.floors ≡ m → AreWide m (insert levels k form)
wide_insert m levels zero form w e = (e, w)
wide_insert m [] (suc k) form w e = (e, tt)
wide_insert m (f ∷ levels) (suc k) form w e = (w.0, wide_insert m levels k form w.1 e)

wide_widened : (m : ℕ) (levels : List Affine) → AreWide m levels → AreWide (m + 1) (map widened levels)
wide_widened m [] w = tt
wide_widened m (f ∷ levels) w = (length-append f.floors (pos 0 ∷ []) ∙ ap (λ k. k + 1) w.0, wide_widened m levels w.1)

length_scale : (q : ℤ) (b : List ℤ) → length (scale q b) ≡ length b
length_scale q [] = refl
length_scale q (y ∷ b) = ap suc (length_scale q b)

length_sum : (a b : List ℤ) → length a ≡ length b → length (add_rows a b) ≡ length a
length_sum [] [] e = refl
length_sum [] (y ∷ b) e = absurd (omega (arith, e))
length_sum (x ∷ a) [] e = absurd (omega (arith, e))
length_sum (x ∷ a) (y ∷ b) e = ap suc (length_sum a b (omega (arith, e)))

-- values

pub values_length : (schedule : Schedule) (x n : List ℤ) → length (level_values schedule x n) ≡ length schedule.levels
values_length schedule x n = length-map schedule.levels (λ level. affine_at level x (floors_after [] schedule.floors x n) n)

value_at : (levels : List Affine) (k : ℕ) (x F n : List ℤ) → k < length levels → affine_at (form_at levels k) x F n ≡ entry (levels_at levels x F n) k
value_at levels k x F n l = sym (get_or-map (λ level. affine_at level x F n) levels k no_form (pos 0) l)

set_value : (levels : List Affine) (k : ℕ) (form : Affine) (x F n : List ℤ) → levels_at (set levels k form) x F n ≡ set (levels_at levels x F n) k (affine_at form x F n)
set_value levels k form x F n = map-set (λ level. affine_at level x F n) levels k form

widened_values : (levels : List Affine) (x F n : List ℤ) (g : ℤ) → AreWide (length F) levels → levels_at (map widened levels) x (F ++ g ∷ []) n ≡ levels_at levels x F n
widened_values [] x F n g w = refl
widened_values (f ∷ levels) x F n g w =
    ap (λ z. z ∷ levels_at (map widened levels) x (F ++ g ∷ []) n) (widened_level f x F n g w.0)
    ∙ ap (λ t. affine_at f x F n ∷ t) (widened_values levels x F n g w.1)

-- the new floor of a cut
abbrev pub cut_floor : ℕ → ℤ → Schedule → Floor
cut_floor k s schedule = record { value = widened (form_at schedule.levels k); size = s }

-- its value
abbrev cut_value : ℕ → ℤ → Schedule → List ℤ → List ℤ → ℤ
cut_value k s schedule x n = floor_of (affine_at (widened (form_at schedule.levels k)) x (floors_after [] schedule.floors x n) n) s

pub cut_floors : (k : ℕ) (s : ℤ) (t : ℕ) (schedule : Schedule) (x n : List ℤ)
    → floors_after [] (cut k s t schedule).floors x n ≡ floors_after [] schedule.floors x n ++ cut_value k s schedule x n ∷ []
cut_floors k s t schedule x n = floors_more [] schedule.floors (cut_floor k s schedule) x n

cut_values : (k : ℕ) (s : ℤ) (t : ℕ) (schedule : Schedule) (x n : List ℤ) → k < length schedule.levels → AreWide (length schedule.floors) schedule.levels
    → level_values (cut k s t schedule) x n ≡ insert (level_values schedule x n) t (floor_of (entry (level_values schedule x n) k) s)
cut_values k s t schedule x n l w =
    let F = floors_after [] schedule.floors x n in
    let form = form_at schedule.levels k in
    let g = cut_value k s schedule x n in
    let count : length schedule.floors ≡ length F = sym (floors_count [] schedule.floors x n ∙ (omega arith)) in
    let wide : AreWide (length F) schedule.levels = subst (λ m. AreWide m schedule.levels) count w in
    let own : length form.floors ≡ length F = wide_at (length F) schedule.levels k l wide in
    ap (λ H. levels_at (cut k s t schedule).levels x H n) (cut_floors k s t schedule x n)
    ∙ map_insert (λ level. affine_at level x (F ++ g ∷ []) n) (map widened schedule.levels) t (last_floor form)
    ∙ ap (λ v. insert v t (affine_at (last_floor form) x (F ++ g ∷ []) n)) (widened_values schedule.levels x F n g wide)
    ∙ ap (λ z. insert (levels_at schedule.levels x F n) t z) (last_value form x F n g own
    ∙ ap (λ z. floor_of z s) (widened_value form x F n ∙ value_at schedule.levels k x F n l))

-- the values of the levels after a command
pub values_follow : (command : Command) (schedule : Schedule) (x n : List ℤ) → IsWithin command schedule.levels → AreWide (length schedule.floors) schedule.levels
    → level_values (forms_after command schedule) x n ≡ values_after command n (level_values schedule x n)
values_follow (Fission p c) schedule x n h w = refl
values_follow (Fuse p) schedule x n h w = refl
values_follow (Reorder p order) schedule x n h w = refl
values_follow (Interchange p k l) schedule x n h w = map_swap (λ level. affine_at level x (floors_after [] schedule.floors x n) n) schedule.levels (place k) (place l) h.0 h.1
values_follow (Skew p k l f) schedule x n h w =
    let F = floors_after [] schedule.floors x n in
    let a = form_at schedule.levels (place k) in
    let b = form_at schedule.levels (place l) in
    set_value schedule.levels (place k) (plus_multiple a f b) x F n
    ∙ ap (λ z. set (levels_at schedule.levels x F n) (place k) z) (sum_value a b f x F n
    ∙ ap (λ z. z +ℤ (f *ℤ affine_at b x F n)) (value_at schedule.levels (place k) x F n h.0)
    ∙ ap (λ z. entry (levels_at schedule.levels x F n) (place k) +ℤ (f *ℤ z)) (value_at schedule.levels (place l) x F n h.1))
values_follow (Shift p k v c) schedule x n h w =
    let F = floors_after [] schedule.floors x n in
    let a = form_at schedule.levels (place k) in
    set_value schedule.levels (place k) (moved a v c) x F n
    ∙ ap (λ z. set (levels_at schedule.levels x F n) (place k) z) (moved_value a v c x F n ∙ ap (λ z. (z +ℤ dot v n) +ℤ c) (value_at schedule.levels (place k) x F n h))
values_follow (Reverse p k) schedule x n h w =
    let F = floors_after [] schedule.floors x n in
    let a = form_at schedule.levels (place k) in
    set_value schedule.levels (place k) (negative a) x F n
    ∙ ap (λ z. set (levels_at schedule.levels x F n) (place k) z) (negative_value a x F n ∙ ap (λ z. neg_ℤ z) (value_at schedule.levels (place k) x F n h))
values_follow (Stripmine p k s) schedule x n h w = cut_values (place k) s (place k) schedule x n h w
values_follow (Tile p k s t) schedule x n h w = cut_values (place k) s (place t) schedule x n h w
values_follow (Iss p xs ns c) schedule x n h w = refl

-- a command makes different values of different ones
pub values_same : (command : Command) (levels : List Affine) (n v w : List ℤ) → IsWithin command levels → length v ≡ length levels → length w ≡ length levels
    → values_after command n v ≡ values_after command n w → v ≡ w
values_same (Fission p c) levels n v w h lv lw e = e
values_same (Fuse p) levels n v w h lv lw e = e
values_same (Reorder p order) levels n v w h lv lw e = e
values_same (Interchange p k l) levels n v w h lv lw e = swap_same v w (place k) (place l) (lv ∙ sym lw) (omega (arith, lv, h.0)) (omega (arith, lv, h.1)) e
values_same (Skew p k l f) levels n v w h lv lw e =
    let long : length v ≡ length w = lv ∙ sym lw in
    let low : place k < length v = omega (arith, lv, h.0) in
    let a = entry v (place k) +ℤ (f *ℤ entry v (place l)) in
    let b = entry w (place k) +ℤ (f *ℤ entry w (place l)) in
    let both : a ≡ b = set_entries v w (place k) a b long low e in
    let other : entry v (place l) ≡ entry w (place l) = set_elsewhere v w (place k) (place l) a b h.2 e in
    let times : f *ℤ entry v (place l) ≡ f *ℤ entry w (place l) = ap (λ z. f *ℤ z) other in
    same_set v w (place k) a b long low e (omega (arith, ints))
values_same (Shift p k u c) levels n v w h lv lw e =
    let long : length v ≡ length w = lv ∙ sym lw in
    let low : place k < length v = omega (arith, lv, h) in
    let a = (entry v (place k) +ℤ dot u n) +ℤ c in
    let b = (entry w (place k) +ℤ dot u n) +ℤ c in
    let both : a ≡ b = set_entries v w (place k) a b long low e in
    same_set v w (place k) a b long low e (omega (arith, ints))
values_same (Reverse p k) levels n v w h lv lw e =
    let long : length v ≡ length w = lv ∙ sym lw in
    let low : place k < length v = omega (arith, lv, h) in
    let both : neg_ℤ (entry v (place k)) ≡ neg_ℤ (entry w (place k)) = set_entries v w (place k) (neg_ℤ (entry v (place k))) (neg_ℤ (entry w (place k))) long low e in
    same_set v w (place k) (neg_ℤ (entry v (place k))) (neg_ℤ (entry w (place k))) long low e (omega (arith, ints))
values_same (Stripmine p k s) levels n v w h lv lw e = insert_same v w (place k) (floor_of (entry v (place k)) s) (floor_of (entry w (place k)) s) (lv ∙ sym lw) e
values_same (Tile p k s t) levels n v w h lv lw e = insert_same v w (place t) (floor_of (entry v (place k)) s) (floor_of (entry w (place k)) s) (lv ∙ sym lw) e
values_same (Iss p xs ns c) levels n v w h lv lw e = e

-- so equal values after a command come from equal ones
pub values_back : (command : Command) (schedule : Schedule) (x y n : List ℤ) → IsWithin command schedule.levels → AreWide (length schedule.floors) schedule.levels
    → level_values (forms_after command schedule) x n ≡ level_values (forms_after command schedule) y n → level_values schedule x n ≡ level_values schedule y n
values_back command schedule x y n h w e =
    values_same command schedule.levels n (level_values schedule x n) (level_values schedule y n) h (values_length schedule x n) (values_length schedule y n)
    (sym (values_follow command schedule x n h w) ∙ e ∙ values_follow command schedule y n h w)

-- forms keep the size that the floors ask
cut_wide : (k : ℕ) (s : ℤ) (t : ℕ) (schedule : Schedule) → k < length schedule.levels → AreWide (length schedule.floors) schedule.levels
    → AreWide (length (cut k s t schedule).floors) (cut k s t schedule).levels
cut_wide k s t schedule l w =
    let m = length schedule.floors in
    let form = form_at schedule.levels k in
    let count : m + 1 ≡ length (cut k s t schedule).floors =
    sym (length-append (map widened_floor schedule.floors) (cut_floor k s schedule ∷ []) ∙ ap (λ j. j + 1) (length-map schedule.floors widened_floor)) in
    let last : length (last_floor form).floors ≡ m + 1 =
    length-append (zeros (length form.floors)) (pos 1 ∷ []) ∙ ap (λ j. j + 1) (length-replicate (length form.floors) (pos 0) ∙ wide_at m schedule.levels k l w) in
    subst (λ j. AreWide j (insert (map widened schedule.levels) t (last_floor form))) count (wide_insert (m + 1) (map widened schedule.levels) t (last_floor form) (wide_widened m schedule.levels w) last)

pub stay_wide : (command : Command) (schedule : Schedule) → IsWithin command schedule.levels → AreWide (length schedule.floors) schedule.levels
    → AreWide (length (forms_after command schedule).floors) (forms_after command schedule).levels
stay_wide (Fission p c) schedule h w = w
stay_wide (Fuse p) schedule h w = w
stay_wide (Reorder p order) schedule h w = w
stay_wide (Interchange p k l) schedule h w =
    let m = length schedule.floors in
    let a = form_at schedule.levels (place k) in
    let b = form_at schedule.levels (place l) in
    subst (λ levels. AreWide m levels) (swap_is schedule.levels (place k) (place l) no_form h.0 h.1)
    (wide_set m (set schedule.levels (place k) b) (place l) a (wide_set m schedule.levels (place k) b w (wide_at m schedule.levels (place l) h.1 w)) (wide_at m schedule.levels (place k) h.0 w))
stay_wide (Skew p k l f) schedule h w =
    let m = length schedule.floors in
    let a = form_at schedule.levels (place k) in
    let b = form_at schedule.levels (place l) in
    let la : length a.floors ≡ m = wide_at m schedule.levels (place k) h.0 w in
    let lb : length b.floors ≡ m = wide_at m schedule.levels (place l) h.1 w in
    wide_set m schedule.levels (place k) (plus_multiple a f b) w (length_sum a.floors (scale f b.floors) (la ∙ sym lb ∙ sym (length_scale f b.floors)) ∙ la)
stay_wide (Shift p k v c) schedule h w =
    let m = length schedule.floors in
    wide_set m schedule.levels (place k) (moved (form_at schedule.levels (place k)) v c) w (wide_at m schedule.levels (place k) h w)
stay_wide (Reverse p k) schedule h w =
    let m = length schedule.floors in
    let a = form_at schedule.levels (place k) in
    wide_set m schedule.levels (place k) (negative a) w (length-map a.floors neg_ℤ ∙ wide_at m schedule.levels (place k) h w)
stay_wide (Stripmine p k s) schedule h w = cut_wide (place k) s (place k) schedule h w
stay_wide (Tile p k s t) schedule h w = cut_wide (place k) s (place t) schedule h w
stay_wide (Iss p xs ns c) schedule h w = w

-- the values of the floors go on the old ones
pub floors_go_on : (command : Command) (schedule : Schedule) → FloorsGoOn schedule (forms_after command schedule)
floors_go_on (Fission p c) schedule x n = ([], sym (append-nil (floors_after [] schedule.floors x n)))
floors_go_on (Fuse p) schedule x n = ([], sym (append-nil (floors_after [] schedule.floors x n)))
floors_go_on (Reorder p order) schedule x n = ([], sym (append-nil (floors_after [] schedule.floors x n)))
floors_go_on (Interchange p k l) schedule x n = ([], sym (append-nil (floors_after [] schedule.floors x n)))
floors_go_on (Skew p k l f) schedule x n = ([], sym (append-nil (floors_after [] schedule.floors x n)))
floors_go_on (Shift p k v c) schedule x n = ([], sym (append-nil (floors_after [] schedule.floors x n)))
floors_go_on (Reverse p k) schedule x n = ([], sym (append-nil (floors_after [] schedule.floors x n)))
floors_go_on (Stripmine p k s) schedule x n = (cut_value (place k) s schedule x n ∷ [], cut_floors (place k) s (place k) schedule x n)
floors_go_on (Tile p k s t) schedule x n = (cut_value (place k) s schedule x n ∷ [], cut_floors (place k) s (place t) schedule x n)
floors_go_on (Iss p xs ns c) schedule x n = ([], sym (append-nil (floors_after [] schedule.floors x n)))
