-- The laws of the solved form: what is printed reads back, and means what its rows mean.
use Rattle.std.specs.Prelude.{◌≡◌, ◌↔◌, ℕ, ℤ, true, List, [], ◌∷◌, length}
use Rattle.relation_core.specs.Points.{MeetsAll, coordinates, LiesIn}
use Rattle.relation_core.specs.Systems.{System, IsWellFormed}
use Rattle.scop_data.specs.declared.schedules.Floor.{Floor}
use Rattle.scop_data.specs.declared.schedules.Schedule.{Schedule}
use Rattle.scop_data.specs.declared.accesses.AccessKind.{AccessKind}
use Rattle.scop_data.specs.declared.accesses.Access.{Access}
use Rattle.schedule_forms.specs.SolvedForm.{is_scattering, schedule_of, is_access, access_of}
use Rattle.scop_data.specs.SolvedRows.{floor_part, schedule_part, access_part}
use Rattle.scop_data.specs.Memory.{Cell}
use Rattle.scop_data.specs.Meaning.{floors_after, stamp_of, use_at}
use Rattle.scop_data.specs.SolvedData.{AreSolvedFloors, IsSolvedSchedule, IsSolvedAccess}

-- the rows of a schedule are a scattering in solved form, and that schedule
abbrev pub ScheduleReadsBack : Type 0
ScheduleReadsBack = (iterators parameters : ℕ) (schedule : Schedule) → IsSolvedSchedule iterators parameters schedule
    → (is_scattering (schedule_part iterators parameters schedule) ≡ true) × (schedule_of (schedule_part iterators parameters schedule) ≡ schedule)

-- the rows of an access are an access relation in solved form, and that access
abbrev pub AccessReadsBack : Type 0
AccessReadsBack = (iterators parameters : ℕ) (access : Access) → IsSolvedAccess iterators parameters access
    → (is_access (access_part iterators parameters access) ≡ true) × (access_of access.kind (access_part iterators parameters access) ≡ access)

-- the schedule of a scattering in solved form can be printed, and is in solved form
abbrev pub ScatteringIsSolved : Type 0
ScatteringIsSolved = (part : System) → IsWellFormed part.shape part.rows → is_scattering part ≡ true
    → IsSolvedSchedule part.shape.inputs part.shape.parameters (schedule_of part)

-- the access of an access relation in solved form can be printed, and is in solved form
abbrev pub AccessIsSolved : Type 0
AccessIsSolved = (kind : AccessKind) (part : System) → IsWellFormed part.shape part.rows → is_access part ≡ true
    → IsSolvedAccess part.shape.inputs part.shape.parameters (access_of kind part)

-- the outputs that the rows of a scattering allow are the stamp of its schedule, with floors as greatest integers
abbrev pub SolvedScheduleMeansItsRelation : Type 0
SolvedScheduleMeansItsRelation = (part : System) → IsWellFormed part.shape part.rows → is_scattering part ≡ true → (y x n : List ℤ)
    → length y ≡ part.shape.outputs → length x ≡ part.shape.inputs → length n ≡ part.shape.parameters
    → LiesIn part y x n ↔ (y ≡ stamp_of (schedule_of part) x n)

-- the rows of floors hold exactly where each local is the value of its floor
abbrev pub FloorRowsMeanFloors : Type 0
FloorRowsMeanFloors = (iterators parameters : ℕ) (floors : List Floor) → AreSolvedFloors iterators parameters floors → (x l n : List ℤ)
    → length x ≡ iterators → length l ≡ length floors → length n ≡ parameters
    → MeetsAll (floor_part iterators parameters floors).rows (coordinates [] x l n) ↔ (l ≡ floors_after [] floors x n)

-- a cell as a list: the identifier of its array, then its subscripts
abbrev pub cell_list : Cell → List ℤ
cell_list cell = cell.array ∷ cell.subscripts

-- the outputs that the rows of an access relation allow are the cell that its access uses
abbrev pub SolvedAccessMeansItsRelation : Type 0
SolvedAccessMeansItsRelation = (kind : AccessKind) (part : System) → IsWellFormed part.shape part.rows → is_access part ≡ true → (y x n : List ℤ)
    → length y ≡ part.shape.outputs → length x ≡ part.shape.inputs → length n ≡ part.shape.parameters
    → LiesIn part y x n ↔ (y ≡ cell_list (use_at x n (access_of kind part)).cell)
