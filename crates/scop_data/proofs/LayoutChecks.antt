-- The printed layout on concrete data.
use Rattle.std.proofs.Common.{◌≡◌, ℤ, pos, negsuc, ℕ, List, [], ◌∷◌, ◌++◌, Option, None, Some, refl}
use Rattle.std.specs.Prelude.{codes}
use Rattle.std.specs.Fmt.{digits}
use Rattle.relation_core.specs.declared.part_rows.PartRow.{PartRow}
use Rattle.relation_core.specs.declared.part_rows.RowKind.TheVariants.{AtLeast}
use Rattle.scop_data.specs.declared.accesses.AccessKind.TheVariants.{Write}
use Rattle.scop_data.specs.ScopData.{ScopData}
use Rattle.scop_data.specs.Layouts.{layout}

abbrev n : ℤ
n = pos 0

abbrev one : ℤ
one = pos 1

abbrev minus : ℤ
minus = negsuc 0

abbrev at_least : List ℤ → PartRow
at_least entries = record { kind = AtLeast; entries = entries }

-- for (i = 0; i < N; i++) A[i] = 0;
abbrev one_loop : ScopData
one_loop = record {
  language = codes "C";
  context = record { shape = record { outputs = 0; inputs = 0; locals = 0; parameters = 1 }; rows = [] };
  parameters = Some (codes "N" ∷ []);
  statements = record {
    domain = record {
      shape = record { outputs = 1; inputs = 0; locals = 0; parameters = 1 };
      rows = at_least (one ∷ (n ∷ (n ∷ []))) ∷ (at_least (minus ∷ (one ∷ (minus ∷ []))) ∷ []);
    } ∷ [];
    schedule = record {
      floors = [];
      levels = record { iterators = one ∷ []; floors = []; parameters = n ∷ []; constant = n } ∷ [];
      betas = n ∷ (n ∷ []);
    };
    accesses = record {
      kind = Write;
      array = one;
      subscripts = record { iterators = one ∷ []; floors = []; parameters = n ∷ []; constant = n } ∷ [];
    } ∷ [];
    body = record { text = codes "A[i] = 0;"; iterators = codes "i" ∷ [] };
    extensions = [];
  } ∷ [];
  arrays = Some ((one, codes "A") ∷ []);
  extensions = [];
}

one_loop_printed : layout one_loop ≡
    codes "<OpenScop>\nC\nCONTEXT\n0 3 0 0 0 1\n1\n<strings>\nN\n</strings>\n1\n3\nDOMAIN\n2 4 1 0 0 1\n1 1 0 0\n1 -1 1 -1\n" ++
    codes "SCATTERING\n3 7 3 1 0 1\n0 -1 0 0 0 0 0\n0 0 -1 0 1 0 0\n0 0 0 -1 0 0 0\nWRITE\n2 6 2 1 0 1\n0 -1 0 0 0 1\n0 0 -1 1 0 0\n" ++
    codes "1\n<body>\n1\ni\nA[i] = 0;\n</body>\n<arrays>\n1\n1 A\n</arrays>\n</OpenScop>\n"
unfolding digits
one_loop_printed = refl
