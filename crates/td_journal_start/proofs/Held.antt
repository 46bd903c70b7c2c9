-- What was read of a file's end.
use Rattle.std.proofs.Common.{◌≡◌, ℕ, ◌+◌, ◌<◌, List, ◌++◌, length, take, drop, sym, ap, ◌∙◌, arith}
use Rattle.std.proofs.lemmas.List.{ext_get_or, get_or-drop, length-drop, take-append-drop}
use Rattle.sqlite_disk.specs.Disk.{Holds}

pub held : (file bytes : List ℕ) (at : ℕ) → length file ≡ at + length bytes → (0 < length bytes → Holds file at bytes) → file ≡ take at file ++ bytes
held file bytes at size holds =
    let same : length (drop at file) ≡ length bytes = length-drop at file ∙ omega (arith, size) in
    sym (take-append-drop at file) ∙ ap (λ (rest : List ℕ). take at file ++ rest)
    (ext_get_or 0 (drop at file) bytes same (λ i within. let there : i < length bytes = omega (arith, within, same) in get_or-drop at file i 0 ∙ (holds (omega (arith, there))).each i there))
