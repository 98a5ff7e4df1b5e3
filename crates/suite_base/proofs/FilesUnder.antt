use Rattle.std.proofs.Common.{◌≡◌, ℕ, true, false, List, [], ◌+◌, ◌<◌, length, drop, get_or, refl, ap, add-one, Some}
use Rattle.std.proofs.Math.Seq.{drop-cons}
use Rattle.std.proofs.lemmas.List.{get_or_default}
use Rattle.std.specs.Str.{bytes_eq}
use Rattle.suite_base.specs.Outside.{bytes_at, bytes_under}

-- the file at place k has the name
pub under_here : (name : List ℕ) (files : List (List ℕ × List ℕ)) (k : ℕ) (d : List ℕ × List ℕ) → k < length files → bytes_eq name (get_or files k d).0 ≡ true → bytes_under name (drop k files) ≡ Some (bytes_at files k)
under_here name files k d h e = rw (drop-cons files k d) (simp e (ap (λ (f : List ℕ × List ℕ). Some f.1) (get_or_default files k d ([], []) h)))

-- the file at place k has another name
pub under_later : (name : List ℕ) (files : List (List ℕ × List ℕ)) (k : ℕ) (d : List ℕ × List ℕ) → k < length files → bytes_eq name (get_or files k d).0 ≡ false → bytes_under name (drop (k + 1) files) ≡ bytes_under name (drop k files)
under_later name files k d h e = rw (drop-cons files k d, add-one) (simp e refl)
