-- What is copied out of a log to the front of a slice.
use Rattle.std.proofs.Common.{◌≡◌, ◌∙◌, ◌≤◌, ◌++◌, ℕ, List, ap, sym, append_assoc, length, take}
use Rattle.std.proofs.Math.Seq.{take-append_seam}
use Rattle.std.proofs.lemmas.List.{length-take-le}

-- the first ones, with others behind them
front : {X : Type 0} (xs ys : List X) (n : ℕ) → n ≤ length xs → take n (take n xs ++ ys) ≡ take n xs
front xs ys n within = ap (λ m. take m (take n xs ++ ys)) (sym (length-take-le n xs within)) ∙ take-append_seam (take n xs) ys

-- the first ones of a slice whose beginning they were copied to
pub copied : {X : Type 0} (xs old rest new : List X) (n : ℕ) → n ≤ length xs → new ≡ take n xs ++ old → take n (new ++ rest) ≡ take n xs
copied xs old rest new n within read =
    ap (λ dst. take n (dst ++ rest)) read ∙ ap (take n) (append_assoc (take n xs) old rest) ∙ front xs (old ++ rest) n within
