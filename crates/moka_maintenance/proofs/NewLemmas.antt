-- A maintenance with which nothing was done.
use Rattle.std.proofs.Common.{◌≡◌, ◌≤◌, false, List}
use Rattle.std.proofs.Common.{[], ◌∷◌, length, Option, Some, None, is_some, refl, sym}
use Rattle.std.proofs.Common.{arith, slice_get}
use Rattle.std.proofs.lemmas.Bool.{false≢true}
use Rattle.moka_common.specs.Sketch.{Table, IsSketch}
use Rattle.moka_common.specs.SketchCapacity.{table_len}
use Rattle.moka_common.proofs.SketchLemmas.{power_pos}
use Rattle.moka_sync_model.specs.CoreState.{new_maintenance}
use Rattle.moka_queues.specs.OrdersState.{access_of}
use Rattle.moka_maintenance.specs.declared.maintenance.phase.PhaseState.TheVariants as state
use Rattle.moka_maintenance.specs.Held.{Held, maintenance_of, phase_of}

no_items : {X : Type 0} (xs : List X) → length xs ≤ 0 → xs ≡ []
no_items [] h = refl
no_items (x ∷ xs) h = absurd (omega (arith, h))

no_first : {X : Type 0} (xs : List X) → is_some (slice_get xs 0) ≡ false → xs ≡ []
no_first [] h = refl
no_first (x ∷ xs) h = absurd (false≢true (sym h))

no_table : (o : Option Table) → IsSketch o → table_len o ≤ 0 → o ≡ None
no_table None s h = refl
no_table (Some t) s h = let some = power_pos t.places s.shape.power in absurd (omega (arith, some, h))

pub new_from : (h : Held) → h.phase ≡ state.Idle → length h.orders.nodes ≤ 0 → is_some (slice_get h.orders.written 0) ≡ false
    → IsSketch h.sketch → table_len h.sketch ≤ 0 → h.moment ≤ 0 → h.published ≡ record { number = 0; count = 0; weight = 0 }
    → maintenance_of h ≡ new_maintenance
new_from h idle nodes written sketch table moment published =
    let start : h.moment ≡ 0 = omega (arith, moment) in
    λ i. record {
      orders = record { access = access_of (no_items h.orders.nodes nodes i); write = no_first h.orders.written written i };
      sketch = no_table h.sketch sketch table i;
      phase = phase_of h.orders.nodes (idle i);
      moment = start i;
      published = published i;
    }
