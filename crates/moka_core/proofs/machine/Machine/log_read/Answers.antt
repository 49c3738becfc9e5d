use Rattle.std.proofs.Common.{◌≡◌, ◌++◌, ◌∷◌, ◌∙◌, [], false, length, subst, sym}
use Rattle.moka_common.specs.Keys.{Keys, keys_by}
use Rattle.moka_sync_model.specs.declared.constants.TheConstants.{FLUSH_POINT, READ_LOG_SIZE}
use Rattle.moka_sync_model.specs.CoreCall.{is_due}
use Rattle.moka_sync_model.specs.CoreState.{CoreState}
use Rattle.moka_core.proofs.CallLemmas.{logs_read, room_where_not_due, where_room}
use Rattle.moka_core.proofs.machine.Machine.log_read.Given.{Over}
use Rattle.moka_core.proofs.machine.Machine.log_read.Goals as goal

-- the keys of the core
abbrev keys : (g : Over) → Keys g.row.K.Denot g.row.S.Denot
keys g = keys_by (record { eq = g.K.PartialEq.eq; hash_input = g.K.Hash.hash_input }) g.S.BuildHasher g.S.Hasher.Hasher

pub returns-clause-step : goal.returns-clause-step
returns-clause-step g c =
    let inside = c.self.inside in
    let weighs = g.W.WeighShared.weighs inside.weigher in
    let old : CoreState g.row.K.Denot g.row.V.Denot g.row.S.Denot = record {
      settings = inside.map.settings;
      entries = inside.map.entries;
      next_numbers = inside.map.next_numbers;
      valid_after = inside.valid_after;
      read_log = inside.read_log;
      write_log = inside.write_log;
      pending = inside.pending.operations;
      maintenance = inside.maintenance;
      sync_after = inside.sync_after;
    } in
    let none : inside.pending.operations ≡ [] = subst (λ m. m.state.pending ≡ []) (sym c.self.view_is) c.requires.rest.pending in
    let rests : is_due (length inside.read_log) FLUSH_POINT inside.sync_after c.args.now ≡ false =
    subst (λ n. is_due n FLUSH_POINT inside.sync_after c.args.now ≡ false) c.len.ensures.len (sym c.is_due.ensures ∙ c.if-is_due.false) in
    let room = room_where_not_due (keys g) g.met.K.Eq.laws weighs (length inside.read_log) inside.sync_after c.args.now rests in
    let log : c.push_logged.new.self ≡ inside.read_log ++ c.args.logged.read ∷ [] =
    where_room (keys g) g.met.K.Eq.laws weighs c.push_logged.result (length inside.read_log) READ_LOG_SIZE
    (c.push_logged.new.self ≡ inside.read_log ++ c.args.logged.read ∷ []) c.push_logged.ensures.variant room c.push_logged.ensures.ok in
    rw (← c.self.view_is) (logs_read (keys g) g.met.K.Eq.laws weighs c.args.now old c.args.logged.read c.push_logged.new.self
    none rests log)
