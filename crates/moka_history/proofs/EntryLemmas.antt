-- What stands at a key once the entries of a shard have changed.
use Rattle.std.proofs.Common.{◌≡◌, Bool, true, false, not, cond, List, [], ◌∷◌, map, Option, Some, None, refl, sym, ◌∙◌, ap, inl, inr}
use Rattle.std.specs.Cmp.{IsEquivalence}
use Rattle.std.specs.List.{find, IsDistinct}
use Rattle.std.specs.Option.{option_map}
use Rattle.std.proofs.lemmas.Bool.{both_ways, false_from_ne_true, false≢true}
use Rattle.moka_sync_model.specs.declared.ticket.Ticket.{Ticket}
use Rattle.moka_sync_model.specs.Ticket.{same_ticket, without, changed, AreApart}
use Rattle.moka_sync_model.specs.Entry.{Entry, entry_at, entry_of}
use Rattle.moka_sync_model.specs.MapStep.{AddsEntry}
use Rattle.moka_sync_model.proofs.ListLemmas.{find-changed}
use Rattle.moka_sync_model.proofs.TicketLemmas.{cases_ticket, same_is, same_self}
use Rattle.moka_sync_model.proofs.EventLemmas.{entry_of-found}
use Rattle.moka_sync_model.proofs.AdditionLemmas.{find-added, find-added_other}
use Rattle.moka_sync_model.proofs.CauseLemmas.{find-passes}
use Rattle.moka_sync_model.proofs.MildLemmas.{found_before}
use Rattle.moka_sync_model.proofs.ValueLemmas.{find-kept, find-still}

module _ {K V : Type 0} (eq : K → K → Bool) (laws : IsEquivalence eq) where
  -- equal keys find the same
  pub same_key : (key k : K) (es : List (Entry K V)) → eq key k ≡ true → entry_at eq key es ≡ entry_at eq k es
  same_key key k [] same = refl
  same_key key k (e ∷ es) same = rw (laws.congr key k e.key same) (ap (λ o. cond (eq k e.key) (Some e) o) (same_key key k es same))

  other_key : (key k : K) (e : Entry K V) → eq key k ≡ false → eq k e.key ≡ true → eq key e.key ≡ false
  other_key key k e differ here =
      false_from_ne_true (eq key e.key)
      (λ there. both_ways (eq key k) differ (laws.congr key e.key k there ∙ laws.symm e.key k ∙ here))

  module _ (es : List (Entry K V)) (keys_apart : IsDistinct eq (map (λ e. e.key) es)) (apart : AreApart (λ e. e.ticket) es) where
    -- an entry of another key is of another ticket
    other_ticket : (key k : K) (e x : Entry K V) → eq key k ≡ false → entry_at eq k es ≡ Some e → entry_at eq key es ≡ Some x
        → same_ticket e.ticket x.ticket ≡ false
    other_ticket key k e x differ found there =
        false_from_ne_true (same_ticket e.ticket x.ticket) (λ same.
        let both : Some e ≡ Some x = sym (entry_of-found (λ y. eq k y.key) es e apart found)
        ∙ ap (λ u. entry_of u es) (same_is e.ticket x.ticket same)
        ∙ entry_of-found (λ y. eq key y.key) es x apart there in
        let is : e ≡ x = cc in
        both_ways (eq key x.key)
        (ap (λ (y : Entry K V). eq key y.key) (sym is)
        ∙ other_key key k e differ (find-passes (λ y. eq k y.key) es e found))
        (find-passes (λ y. eq key y.key) es x there))

    pub at_updated : (key k : K) (e : Entry K V) (f : Entry K V → Entry K V) → ((x : Entry K V) → (f x).key ≡ x.key) → entry_at eq k es ≡ Some e
        → entry_at eq key (changed (λ x. x.ticket) e.ticket f es) ≡ cond (eq key k) (Some (f e)) (entry_at eq key es)
    at_updated key k e f keeps found =
        find-changed (λ x. eq key x.key) (λ x. same_ticket e.ticket x.ticket) f (λ x. ap (eq key) (keeps x)) es ∙ by (eq key k) refl
      where
        others : (differ : eq key k ≡ false) (o : Option (Entry K V)) → entry_at eq key es ≡ o
            → option_map (λ x. cond (same_ticket e.ticket x.ticket) (f x) x) o ≡ o
        others differ None there = refl
        others differ (Some x) there = rw (other_ticket key k e x differ found there)

        by : (b : Bool) → eq key k ≡ b
            → option_map (λ x. cond (same_ticket e.ticket x.ticket) (f x) x) (entry_at eq key es) ≡ cond b (Some (f e)) (entry_at eq key es)
        by true same =
            ap (option_map (λ x. cond (same_ticket e.ticket x.ticket) (f x) x)) (same_key key k es same ∙ found) ∙ rw (same_self e.ticket)
        by false differ = others differ (entry_at eq key es) refl

    pub at_added : (key : K) (e : Entry K V) (entries : List (Entry K V)) → entry_at eq e.key es ≡ None → AddsEntry es e entries
        → entry_at eq key entries ≡ cond (eq key e.key) (Some e) (entry_at eq key es)
    at_added key e entries absent adds = by (eq key e.key) refl
      where
        by : (b : Bool) → eq key e.key ≡ b → entry_at eq key entries ≡ cond b (Some e) (entry_at eq key es)
        by true same =
            ap (entry_at eq key) adds.is
            ∙ find-added (λ x. eq key x.key) adds.before adds.behind e same
            (ap (entry_at eq key) (sym adds.was) ∙ same_key key e.key es same ∙ absent)
        by false differ =
            ap (entry_at eq key) adds.is
            ∙ find-added_other (λ x. eq key x.key) adds.before adds.behind e differ
            ∙ ap (entry_at eq key) (sym adds.was)

    -- where one leaves, who stands then stood before
    pub still_before : (t : Ticket) (key : K) (x : Entry K V) → entry_at eq key (without (λ y. y.ticket) t es) ≡ Some x → entry_at eq key es ≡ Some x
    still_before t key x found = found_before eq laws (λ y. not (same_ticket t y.ticket)) key es x keys_apart found

    pub none_before : (t : Ticket) (key : K) → entry_at eq key es ≡ None → entry_at eq key (without (λ y. y.ticket) t es) ≡ None
    none_before t key none = by (entry_at eq key (without (λ y. y.ticket) t es)) refl
      where
        by : (o : Option (Entry K V)) → entry_at eq key (without (λ y. y.ticket) t es) ≡ o → entry_at eq key (without (λ y. y.ticket) t es) ≡ None
        by None is = is
        by (Some x) is = let both : None ≡ Some x = sym none ∙ still_before t key x is in absurd (cc)

    -- and who left had the ticket
    pub left_had : (t : Ticket) (key : K) (e : Entry K V) → entry_at eq key es ≡ Some e → entry_at eq key (without (λ y. y.ticket) t es) ≡ None
        → t ≡ e.ticket
    left_had t key e stood gone =
        elim (cases_ticket t e.ticket) [
          | inl same ↦ same
          | inr differ ↦
              let both : Some e ≡ None =
              sym (find-still (λ y. eq key y.key) (λ y. not (same_ticket t y.ticket)) es e stood (ap not differ)) ∙ gone in
              absurd (cc)
        ]

    pub at_removed : (key k : K) (e : Entry K V) → entry_at eq k es ≡ Some e
        → entry_at eq key (without (λ x. x.ticket) e.ticket es) ≡ cond (eq key k) None (entry_at eq key es)
    at_removed key k e found = by (eq key k) refl
      where
        none : eq key k ≡ true → (o : Option (Entry K V)) → entry_at eq key (without (λ x. x.ticket) e.ticket es) ≡ o → o ≡ None
        none same None is = refl
        none same (Some x) is =
            let before : entry_at eq key es ≡ Some x = still_before e.ticket key x is in
            let both : Some x ≡ Some e = sym before ∙ same_key key k es same ∙ found in
            let one : x ≡ e = cc in
            let kept : not (same_ticket e.ticket x.ticket) ≡ true =
            find-kept (λ y. eq key y.key) (λ y. not (same_ticket e.ticket y.ticket)) es x is in
            absurd (false≢true
            (ap not (sym (same_self e.ticket)) ∙ ap (λ (y : Entry K V). not (same_ticket e.ticket y.ticket)) (sym one) ∙ kept))

        others : eq key k ≡ false → (o : Option (Entry K V)) → entry_at eq key es ≡ o
            → entry_at eq key (without (λ x. x.ticket) e.ticket es) ≡ o
        others differ None is = none_before e.ticket key is
        others differ (Some x) is =
            find-still (λ y. eq key y.key) (λ y. not (same_ticket e.ticket y.ticket)) es x is
            (ap not (other_ticket key k e x differ found is))

        by : (b : Bool) → eq key k ≡ b → entry_at eq key (without (λ x. x.ticket) e.ticket es) ≡ cond b None (entry_at eq key es)
        by true same = none same (entry_at eq key (without (λ x. x.ticket) e.ticket es)) refl
        by false differ = others differ (entry_at eq key es) refl

    -- the entry of a key is that of its ticket
    pub of_its_ticket : (key : K) (e : Entry K V) → entry_at eq key es ≡ Some e → entry_of e.ticket es ≡ Some e
    of_its_ticket key e found = entry_of-found (λ y. eq key y.key) es e apart found
