-- Lemmas on what a contract sees of each change.
use Rattle.std.proofs.Common.{◌≡◌, ℕ, Bool, nat_eq, List, length, None, Some, is_some, option_map}
use Rattle.std.proofs.Common.{refl, ap, ◌∙◌, arith}
use Rattle.std.proofs.lemmas.Bool.{cond-false, cond-true}
use Rattle.std.specs.Cmp.{IsEquivalence}
use Rattle.std.specs.Map.{lookup, remove_entry, values_of}
use Rattle.moka_unsync_model.specs.Deadline.{expiry_of}
use Rattle.moka_unsync_model.specs.declared.entry.Entry.{Entry}
use Rattle.moka_unsync_model.specs.declared.entry.Part.TheVariants.{Probation}
use Rattle.moka_unsync_model.specs.Contents.{balanced, entries_without, with_latest, writes_without}
use Rattle.moka_unsync_model.specs.Insert.{with_write}
use Rattle.moka_unsync_model.specs.Lookup.{used_part}
use Rattle.moka_store.specs.Nodes.{AreKeyed, IsBalanced, latest_node}
use Rattle.moka_store.specs.Store.{Continues, Enters, KeepsSettings, Promotes, Removes, Replaces, Store, Updates, Uses, entries_of}
use Rattle.moka_list.proofs.ItemLemmas.{differs, length-remove, nat_eq-same}
use Rattle.moka_store.proofs.LatestLemmas.{length-latest, lookup-latest, lookup-relisted, values-latest}
use Rattle.moka_store.proofs.NodeLemmas.{length-keys, values-removed}
use Rattle.moka_store.proofs.SameLemmas.{same-bare}

module _ {K V : Type 0} {eq : K → K → Bool} (laws : IsEquivalence eq) (old new : Store K V) (keyed : AreKeyed eq old.nodes) (id : ℕ) (x : Entry K V)
    (stood : lookup (nat_eq id) old.nodes ≡ Some x) (settings : KeepsSettings old new) where
  pub removes_is : new.nodes ≡ remove_entry (nat_eq id) old.nodes → new.written ≡ writes_without eq x.key old.written → Removes eq old id new
  removes_is nodes written =
      record {
        entry = x;
        stood = stood;
        contents = λ i. record { entries = (ap values_of nodes ∙ values-removed laws keyed id x stood) i; written = written i };
        nodes = nodes;
        kept = record { settings = settings; fewer = omega (arith, ap length nodes, length-remove id old.nodes (ap is_some stood)) };
      }

  -- the entries once one has changed its place
  relisted : (e : Entry K V) → values_of (latest_node (id, e) (remove_entry (nat_eq id) old.nodes))
      ≡ with_latest e (entries_without eq x.key (entries_of old))
  relisted e = values-latest (id, e) (remove_entry (nat_eq id) old.nodes) ∙ ap (with_latest e) (values-removed laws keyed id x stood)

  many : (e : Entry K V) → length (latest_node (id, e) (remove_entry (nat_eq id) old.nodes)) ≡ length old.nodes
  many e = length-latest (id, e) (remove_entry (nat_eq id) old.nodes) ∙ length-remove id old.nodes (ap is_some stood)

  pub promotes_is : new.nodes ≡ latest_node (id, record x { part = Probation }) (remove_entry (nat_eq id) old.nodes) → new.written ≡ old.written
      → Promotes eq old id new
  promotes_is nodes written =
      record {
        entry = x;
        stood = stood;
        contents = λ i. record { entries = (ap values_of nodes ∙ relisted (record x { part = Probation })) i; written = written i };
        alone = values-removed laws keyed id x stood;
        kept = record { settings = settings; fewer = omega (arith, ap length nodes, many (record x { part = Probation })) };
      }

  pub replaces_is : (e : Entry K V) → new.nodes ≡ latest_node (id, e) (remove_entry (nat_eq id) old.nodes)
      → new.written ≡ with_write old.keeps_writes (writes_without eq x.key old.written) e.key (expiry_of e) → Replaces eq old id e new
  replaces_is e nodes written =
      record {
        gone = x;
        stood = stood;
        contents = λ i. record { entries = (ap values_of nodes ∙ relisted e) i; written = written i };
        alone = values-removed laws keyed id x stood;
        others = λ i other.
            ap (lookup (nat_eq i)) nodes
            ∙ (lookup-relisted i id e old.nodes keyed.once ∙ cond-false (nat_eq id i) (Some e) (lookup (nat_eq i) old.nodes) other);
        kept = record { settings = settings; fewer = omega (arith, ap length nodes, many e) };
      }

  module _ (e : Entry K V) (mid : List (ℕ × Entry K V)) (mid_is : mid ≡ latest_node (id, e) (remove_entry (nat_eq id) old.nodes))
      (balance : IsBalanced old.protected_limit mid new.nodes) where
    entries_used : entries_of new ≡ balanced old.protected_limit (with_latest e (entries_without eq x.key (entries_of old)))
    entries_used = balance.entries ∙ ap (balanced old.protected_limit) (ap values_of mid_is ∙ relisted e)

    kept_used : Continues old new
    kept_used =
        record {
          settings = settings;
          fewer = omega (
            arith,
            ap length mid_is,
            many e,
            length-keys mid,
            length-keys new.nodes,
            ap length balance.ids,
          );
        }

    pub uses_is : (now : ℕ) → e ≡ record x { accessed = now; part = used_part old.protected_limit x.part x.weight } → new.written ≡ old.written
        → Uses eq old id now new
    uses_is now is written =
        record {
          entry = x;
          stood = stood;
          contents = λ i. record {
            entries = (entries_used ∙ ap (λ e. balanced old.protected_limit (with_latest e (entries_without eq x.key (entries_of old)))) is) i;
            written = written i;
          };
          value =
              same-bare (λ e. e.value) (λ e. refl) mid new.nodes balance.same id
              ∙ (ap (λ l. option_map (λ e. e.value) (lookup (nat_eq id) l)) mid_is
              ∙ (ap (option_map (λ e. e.value)) (lookup-relisted id id e old.nodes keyed.once
              ∙ cond-true (nat_eq id id) (Some e) (lookup (nat_eq id) old.nodes) (nat_eq-same id))
              ∙ ap (λ e. Some e.value) is));
          kept = kept_used;
        }

    pub updates_is : (update : Entry K V)
        → e ≡ record update { key = x.key; hash = x.hash; part = used_part old.protected_limit x.part update.weight }
        → new.written ≡ with_write old.keeps_writes (writes_without eq x.key old.written) x.key (expiry_of update) → Updates eq old id update new
    updates_is update is written =
        record {
          entry = x;
          stood = stood;
          contents = λ i. record {
            entries = (entries_used ∙ ap (λ e. balanced old.protected_limit (with_latest e (entries_without eq x.key (entries_of old)))) is) i;
            written = written i;
          };
          kept = kept_used;
        }

-- a new entry comes
pub enters_is : {K V : Type 0} {eq : K → K → Bool} (old new : Store K V) (id : ℕ) (e : Entry K V) → lookup (nat_eq id) old.nodes ≡ None
    → new.nodes ≡ latest_node (id, e) old.nodes
    → new.written ≡ with_write old.keeps_writes old.written e.key (expiry_of e) → KeepsSettings old new → Enters eq old e new
enters_is old new id e fresh nodes written kept =
    record {
      contents = λ i. record { entries = (ap values_of nodes ∙ values-latest (id, e) old.nodes) i; written = written i };
      others = λ i some.
          ap (lookup (nat_eq i)) nodes
          ∙ (lookup-latest i id e old.nodes fresh ∙ cond-false (nat_eq id i) (Some e) (lookup (nat_eq i) old.nodes) (differs id i old.nodes fresh some));
      kept = kept;
    }
