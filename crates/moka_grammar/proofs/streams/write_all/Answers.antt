use Rattle.std.proofs.Common.{◌≡◌, ℕ, List, ◌++◌, take, drop, sym, ap, ◌∙◌, append_assoc, take-append-drop, rules}
use Rattle.std.proofs.KnownBytes.{Appends-trans}
use Rattle.moka_grammar.proofs.streams.write_all.Goals as goal

-- what was taken from the front of the rest joins what was gone
front_moved : (all done rest back : List ℕ) (n : ℕ) → all ≡ done ++ rest → back ≡ drop n rest → all ≡ (done ++ take n rest) ++ back
front_moved all done rest back n whole is_back =
    whole ∙ ap (λ l. done ++ l) (sym (take-append-drop n rest) ∙ ap (λ l. take n rest ++ l) (sym is_back))
    ∙ sym (append_assoc done (take n rest) back)

pub loop-rest-preserved : goal.loop-rest-preserved
loop-rest-preserved g c =
    let (done, split, appended, unfailed) = c.loop-rest.invariant in
    let rest = c.loop-rest.rest.now in
    let n = c.in_ok-count.count in (
      done ++ take n rest,
      front_moved _ done rest _ n split c.split_at.ensures.back,
      Appends-trans _ _ _ _ _ appended c.in_ok-count.ensures.bytes,
      search rules,
    )
