-- Lemmas on the value that a get leaves.
use Rattle.std.proofs.Common.{◌≡◌, ◌∙◌, ℕ, Bool, true, Option, Some, None, cond, option_map, ap, is_some, refl, subst, sym}
use Rattle.std.proofs.lemmas.Bool.{false≢true}
use Rattle.std.specs.Cmp.{IsEquivalence}
use Rattle.moka_common.specs.Keys.{Keys}
use Rattle.moka_common.specs.Policy.{Policy}
use Rattle.moka_unsync_model.specs.declared.entry.Entry.{Entry}
use Rattle.moka_unsync_model.specs.CacheState.{CacheState, room_of}
use Rattle.moka_unsync_model.specs.Contents.{Contents, entry_at, entry_where}
use Rattle.moka_unsync_model.specs.Lookup.{after_get_where, after_look, after_search, after_search_where, after_use, found_where, unexpired_at, unexpired_where}
use Rattle.moka_unsync_model.proofs.ContentsLemmas.{found_key}
use Rattle.moka_unsync_model.proofs.MapLemmas.{entry_at-using}
use Rattle.moka_unsync_model.proofs.OwnLemmas.{unexpired-found}
use Rattle.moka_unsync_model.proofs.PartLemmas.{placed}
use Rattle.moka_unsync.proofs.RemovalLemmas.{found_passes}

module _ {K V : Type 0} {eq : K → K → Bool} (laws : IsEquivalence eq) where
  -- an entry that is used keeps its value
  used_value : (room now : ℕ) (policy : Policy) (key : K) (e : Entry K V) (contents : Contents K V) → unexpired_at eq policy now key contents ≡ Some e
      → option_map (λ x. x.value) (entry_at eq key (after_search eq room policy now key contents).entries) ≡ Some e.value
  used_value room now policy key e contents found =
      let used = record e { accessed = now } in
      let (f, at) = entry_at-using laws room key used contents in
      let equal : eq e.key key ≡ true =
      laws.symm e.key key ∙ found_key eq key e contents.entries (unexpired-found policy now (entry_at eq key contents.entries) e found) in
      ap (λ o. option_map (λ x. x.value) (entry_at eq key (after_use eq room now o contents).entries)) found
      ∙ (ap (option_map (λ x. x.value)) at
      ∙ ap (λ b. option_map (λ x. x.value) (placed f (cond b (Some used) (entry_at eq key contents.entries)))) equal)

module _ {K V S W : Type 0} (keys : Keys K S) (laws : IsEquivalence keys.eq) (old : CacheState K V S W) (test : K → Bool)
    (equals : (x y : K) → test x ≡ true → test y ≡ keys.eq x y) (hash now : ℕ) where
  -- the value that a get finds is stored once it is done: the test passes just the keys that are equal to one that passes
  pub got_value : (value : V) → found_where keys old test now ≡ Some value
      → option_map (λ x. x.value) (entry_where test (after_get_where keys old test hash now).contents.entries) ≡ Some value
  got_value value h = by (unexpired_where old.settings.policy now test kept) used h
    where
      kept : Contents K V
      kept = (after_look keys old now).contents

      left : (K → Bool) → Option V
      left t = option_map (λ x. x.value) (entry_where t (after_search_where keys.eq (room_of old) old.settings.policy now t kept).entries)

      used : (e : Entry K V) → unexpired_where old.settings.policy now test kept ≡ Some e → left test ≡ Some e.value
      used e found =
          let stands = found_passes test e kept.entries (unexpired-found old.settings.policy now (entry_where test kept.entries) e found) in
          let same : test ≡ keys.eq e.key = λ i x. equals e.key x stands i in
          subst (λ t. unexpired_where old.settings.policy now t kept ≡ Some e → left t ≡ Some e.value) (sym same)
          (used_value laws (room_of old) now old.settings.policy e.key e kept) found

      by : (o : Option (Entry K V)) → ((e : Entry K V) → o ≡ Some e → left test ≡ Some e.value) → option_map (λ x. x.value) o ≡ Some value
          → left test ≡ Some value
      by None uses none = absurd (false≢true (ap is_some none))
      by (Some e) uses same = uses e refl ∙ same
