-- A call is spelled by its name and what it is given, whatever the calls are.
use Rattle.std.proofs.Common.{◌≡◌, ℕ, List, [], ◌∷◌, true, Option, Some, sym, ap, ◌∙◌, subst}
use Rattle.std.specs.Str.{bytes_eq}
use Rattle.std.proofs.lemmas.Option.{same_Some}
use Rattle.std.proofs.lemmas.Slice.Eq.{bytes_eq-Decides}
use Rattle.moka_grammar.specs.Reading.{◌>>=◌}
use Rattle.moka_grammar.proofs.CutLemmas.{bind_some}

module _ {R : Type 0} (words : R → List (List ℕ)) (Fits : R → Type 0) where
  -- the name and the arguments are the words of the request, which fits
  abbrev pub IsSpelled : List ℕ → List (List ℕ) → R → Type 0
  IsSpelled call arguments r = (call ∷ arguments ≡ words r) × Fits r

  -- where the name is this one, so is the first word
  pub named : (call name : List ℕ) (arguments : List (List ℕ)) (r : R) → bytes_eq call name ≡ true → IsSpelled name arguments r
      → IsSpelled call arguments r
  named call name arguments r is found = (ap (λ w. w ∷ arguments) ((bytes_eq-Decides call name).0 is) ∙ found.0, found.1)

  -- a request that is made of what its arguments are read as, by a reader that reads what is spelled so
  pub given : {X : Type 0} (read : List (List ℕ) → Option X) (spelling : X → List (List ℕ)) (Small : X → Type 0)
      → ((arguments : List (List ℕ)) (x : X) → read arguments ≡ Some x → (arguments ≡ spelling x) × Small x)
      → (call name : List ℕ) (arguments : List (List ℕ)) (make : X → R) (r : R)
      → ((x : X) → words (make x) ≡ name ∷ spelling x) → ((x : X) → Small x → Fits (make x))
      → bytes_eq call name ≡ true → (read arguments >>= λ x. Some (make x)) ≡ Some r → IsSpelled call arguments r
  given read spelling Small found call name arguments make r spelled fits is e =
      let (x, was, shown) = bind_some (read arguments) (λ x. Some (make x)) r e in
      let given_so = found arguments x was in
      named call name arguments r is
      (subst (IsSpelled name arguments) (same_Some _ _ shown)
      (ap (λ l. name ∷ l) given_so.0 ∙ sym (spelled x), fits x given_so.1))

  -- a request with nothing
  pub alone : (call name : List ℕ) (made r : R) → words made ≡ name ∷ [] → Fits made → bytes_eq call name ≡ true → Some made ≡ Some r
      → IsSpelled call [] r
  alone call name made r spelled fits is e = named call name [] r is (subst (IsSpelled name []) (same_Some _ _ e) (sym spelled, fits))
