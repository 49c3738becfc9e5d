-- A sketch that has a table keeps one, and replies come one after another.
use Rattle.std.proofs.Common.{◌≡◌, ℕ, zero, suc, ◌+◌, Bool, true, false, cond, refl, ap, ◌∙◌, subst, Option, Some, None, List, ◌∷◌, ◌++◌}
use Rattle.std.specs.Fn.{iterate}
use Rattle.std.proofs.Math.Numerals.{add-one}
use Rattle.moka_common.specs.Sketch.{Table, after_increment, ages, aged, with_count}
use Rattle.moka_common.specs.SketchCapacity.{table_len}
use Rattle.moka_script.specs.Reply.{Reply, reply_line}
use Rattle.moka_script.specs.SketchRun.{sketch_reply, after_sketch_line, AreSketchReplies}
use Rattle.moka_grammar.specs.declared.line.SketchLine.{SketchLine}

-- what comes first may as well come last
iterate-suc : {A : Type 0} (h : A → A) (n : ℕ) (x : A) → iterate h (suc n) x ≡ h (iterate h n x)
iterate-suc h zero x = refl
iterate-suc h (suc n) x = iterate-suc h n (h x)

-- once more
pub iterate-more : {A : Type 0} (h : A → A) (n : ℕ) (x : A) → iterate h (n + 1) x ≡ h (iterate h n x)
iterate-more h n x = ap (λ k. iterate h k x) (add-one n) ∙ iterate-suc h n x

-- a count leaves the table as long as it was
table_len-increment : (sketch : Option Table) (hash : ℕ) → table_len (after_increment sketch hash) ≡ table_len sketch
table_len-increment None hash = refl
table_len-increment (Some t) hash =
    elim (ages t hash) as (λ b. table_len (Some (cond b (aged (with_count t hash)) (with_count t hash))) ≡ t.places)
    [ true ↦ refl | false ↦ refl ]

-- and so do many
pub table_len-increments : (hash n : ℕ) (sketch : Option Table)
    → table_len (iterate (λ s. after_increment s hash) n sketch) ≡ table_len sketch
table_len-increments hash zero sketch = refl
table_len-increments hash (suc n) sketch = table_len-increments hash n (after_increment sketch hash) ∙ table_len-increment sketch hash

-- one line's reply in front of those to the others
pub AreSketchReplies-cons : (sketch next : Option Table) (line : SketchLine) (reply : Reply) (refused : Bool) (lines : List SketchLine)
    (text : List ℕ)
    → reply ≡ sketch_reply sketch line refused → next ≡ after_sketch_line sketch line refused → AreSketchReplies next lines text
    → AreSketchReplies sketch (line ∷ lines) (reply_line reply ++ text)
AreSketchReplies-cons sketch next line reply refused lines text reply_is next_is more =
    (refused, text, ap (λ r. reply_line r ++ text) reply_is, subst (λ s. AreSketchReplies s lines text) next_is more)
