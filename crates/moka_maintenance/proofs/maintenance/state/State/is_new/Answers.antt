use Rattle.std.proofs.Common.{◌≤◌, ◌∙◌, refl, subst, sym}
use Rattle.moka_maintenance.proofs.NewLemmas.{new_from}
use Rattle.moka_maintenance.proofs.maintenance.state.State.is_new.Goals as goal

pub returns-in-Idle : goal.returns-in-Idle
returns-in-Idle g c =
    rw (← c.self.view_is) (
      (λ _. new_from
          (record {
            orders = c.self.inside.orders;
            sketch = c.self.inside.sketch;
            phase = c.self.inside.phase;
            moment = c.self.inside.moment;
            published = c.self.inside.published;
          })
          c.in-Idle.is
          (subst (λ n. n ≤ 0) c.len.ensures.value c.if-len-gt0.false)
          (sym (c.if-is_some.ensures ∙ (λ i. Rattle.std.specs.Option.is_some (c.oldest_write.ensures.value i))))
          c.table_len.ensures.sketch
          (subst (λ n. n ≤ 0) c.table_len.ensures.value c.if-table_len-gt0.false)
          (subst (λ n. n ≤ 0) c.nanos.ensures c.if-nanos-gt0.false)
          (c.is_opening.ensures.0 c.if-not-is_opening.false)),
      (λ _. refl),
    )
