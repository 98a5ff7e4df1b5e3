-- The solved form on concrete rows: a loop from -5 to 5 in strips of four.
use Rattle.std.proofs.Common.{◌≡◌, refl, ℤ, pos, negsuc, List, [], ◌∷◌, true, false}
use Rattle.relation_core.specs.Systems.{System}
use Rattle.relation_core.specs.declared.part_rows.PartRow.{PartRow}
use Rattle.relation_core.specs.declared.part_rows.RowKind.TheVariants.{Equal, AtLeast}
use Rattle.scop_data.specs.declared.schedules.Schedule.{Schedule}
use Rattle.scop_data.specs.declared.accesses.AccessKind.TheVariants.{Write}
use Rattle.scop_data.specs.declared.accesses.Access.{Access}
use Rattle.schedule_forms.specs.SolvedForm.{is_scattering, schedule_of, is_access, access_of}
use Rattle.scop_data.specs.SolvedRows.{floor_part, schedule_part, access_part}
use Rattle.scop_data.specs.Meaning.{stamp_of, use_at}
use Rattle.schedule_forms.specs.SolvedLaws.{cell_list}

abbrev n : ℤ
n = pos 0

abbrev one : ℤ
one = pos 1

abbrev minus : ℤ
minus = negsuc 0

abbrev equal : List ℤ → PartRow
equal entries = record { kind = Equal; entries = entries }

abbrev at_least : List ℤ → PartRow
at_least entries = record { kind = AtLeast; entries = entries }

abbrev strip_rows : List PartRow → System
strip_rows rows = record { shape = record { outputs = 5; inputs = 1; locals = 1; parameters = 0 }; rows = rows }

-- five outputs, the iterator, the floor, the constant
abbrev printed : System
printed = strip_rows (
    equal (minus ∷ (n ∷ (n ∷ (n ∷ (n ∷ (n ∷ (n ∷ (n ∷ []))))))))
    ∷ (equal (n ∷ (minus ∷ (n ∷ (n ∷ (n ∷ (n ∷ (one ∷ (n ∷ []))))))))
    ∷ (equal (n ∷ (n ∷ (minus ∷ (n ∷ (n ∷ (n ∷ (n ∷ (n ∷ []))))))))
    ∷ (equal (n ∷ (n ∷ (n ∷ (minus ∷ (n ∷ (one ∷ (n ∷ (n ∷ []))))))))
    ∷ (equal (n ∷ (n ∷ (n ∷ (n ∷ (minus ∷ (n ∷ (n ∷ (n ∷ []))))))))
    ∷ (at_least (n ∷ (n ∷ (n ∷ (n ∷ (n ∷ (one ∷ (negsuc 3 ∷ (n ∷ []))))))))
    ∷ (at_least (n ∷ (n ∷ (n ∷ (n ∷ (n ∷ (minus ∷ (pos 4 ∷ (pos 3 ∷ []))))))))
    ∷ [])))))))

-- the same rows in another order, one of them negated
abbrev shuffled : System
shuffled = strip_rows (
    at_least (n ∷ (n ∷ (n ∷ (n ∷ (n ∷ (minus ∷ (pos 4 ∷ (pos 3 ∷ []))))))))
    ∷ (equal (n ∷ (n ∷ (n ∷ (one ∷ (n ∷ (minus ∷ (n ∷ (n ∷ []))))))))
    ∷ (equal (n ∷ (n ∷ (n ∷ (n ∷ (minus ∷ (n ∷ (n ∷ (n ∷ []))))))))
    ∷ (at_least (n ∷ (n ∷ (n ∷ (n ∷ (n ∷ (one ∷ (negsuc 3 ∷ (n ∷ []))))))))
    ∷ (equal (n ∷ (minus ∷ (n ∷ (n ∷ (n ∷ (n ∷ (one ∷ (n ∷ []))))))))
    ∷ (equal (n ∷ (n ∷ (minus ∷ (n ∷ (n ∷ (n ∷ (n ∷ (n ∷ []))))))))
    ∷ (equal (minus ∷ (n ∷ (n ∷ (n ∷ (n ∷ (n ∷ (n ∷ (n ∷ []))))))))
    ∷ [])))))))

-- the second bound of the floor has the constant 2 in place of 3
abbrev loose : System
loose = strip_rows (
    equal (minus ∷ (n ∷ (n ∷ (n ∷ (n ∷ (n ∷ (n ∷ (n ∷ []))))))))
    ∷ (equal (n ∷ (minus ∷ (n ∷ (n ∷ (n ∷ (n ∷ (one ∷ (n ∷ []))))))))
    ∷ (equal (n ∷ (n ∷ (minus ∷ (n ∷ (n ∷ (n ∷ (n ∷ (n ∷ []))))))))
    ∷ (equal (n ∷ (n ∷ (n ∷ (minus ∷ (n ∷ (one ∷ (n ∷ (n ∷ []))))))))
    ∷ (equal (n ∷ (n ∷ (n ∷ (n ∷ (minus ∷ (n ∷ (n ∷ (n ∷ []))))))))
    ∷ (at_least (n ∷ (n ∷ (n ∷ (n ∷ (n ∷ (one ∷ (negsuc 3 ∷ (n ∷ []))))))))
    ∷ (at_least (n ∷ (n ∷ (n ∷ (n ∷ (n ∷ (minus ∷ (pos 4 ∷ (pos 2 ∷ []))))))))
    ∷ [])))))))

-- the floor of i / 4, then i
abbrev strips : Schedule
strips = record {
  floors = record { value = record { iterators = one ∷ []; floors = n ∷ []; parameters = []; constant = n }; size = pos 4 } ∷ [];
  levels = record { iterators = n ∷ []; floors = one ∷ []; parameters = []; constant = n }
      ∷ (record { iterators = one ∷ []; floors = n ∷ []; parameters = []; constant = n } ∷ []);
  betas = n ∷ (n ∷ (n ∷ []));
}

printed_is_scattering : is_scattering printed ≡ true
printed_is_scattering = refl

printed_schedule : schedule_of printed ≡ strips
printed_schedule = refl

strips_printed : schedule_part 1 0 strips ≡ printed
strips_printed = refl

-- the rows of its floor alone: the iterator, the floor, the constant
floor_printed : floor_part 1 0 strips.floors ≡ record {
  shape = record { outputs = 0; inputs = 1; locals = 1; parameters = 0 };
  rows = at_least (one ∷ (negsuc 3 ∷ (n ∷ []))) ∷ (at_least (minus ∷ (pos 4 ∷ (pos 3 ∷ []))) ∷ []);
}
floor_printed = refl

shuffled_is_scattering : is_scattering shuffled ≡ true
shuffled_is_scattering = refl

shuffled_schedule : schedule_of shuffled ≡ strips
shuffled_schedule = refl

loose_is_none : is_scattering loose ≡ false
loose_is_none = refl

-- the first instance
first_stamp : stamp_of (schedule_of printed) (negsuc 4 ∷ []) [] ≡ n ∷ (negsuc 1 ∷ (n ∷ (negsuc 4 ∷ (n ∷ []))))
first_stamp = refl

-- A[i + 5], with the array's row negated
abbrev access_rows : System
access_rows = record {
  shape = record { outputs = 2; inputs = 1; locals = 0; parameters = 0 };
  rows = equal (n ∷ (minus ∷ (one ∷ (pos 5 ∷ [])))) ∷ (equal (one ∷ (n ∷ (n ∷ (minus ∷ [])))) ∷ []);
}

abbrev access : Access
access = record {
  kind = Write;
  array = one;
  subscripts = record { iterators = one ∷ []; floors = []; parameters = []; constant = pos 5 } ∷ [];
}

rows_are_access : is_access access_rows ≡ true
rows_are_access = refl

rows_access : access_of Write access_rows ≡ access
rows_access = refl

access_reads : access_of Write (access_part 1 0 access) ≡ access
access_reads = refl

first_cell : cell_list (use_at (negsuc 4 ∷ []) [] access).cell ≡ one ∷ (n ∷ [])
first_cell = refl
