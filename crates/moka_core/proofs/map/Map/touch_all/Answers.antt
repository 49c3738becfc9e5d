use Rattle.std.proofs.Common.{◌≡◌, ◌∙◌, ◌+◌, ◌<◌, ap, refl, sym, List, get_or, length, take, arith}
use Rattle.std.specs.List.{fold}
use Rattle.std.proofs.Math.Seq.{map-set_same, take-length}
use Rattle.std.proofs.lemmas.List.{get_or-map, length-map}
use Rattle.std.proofs.lemmas.List.Sums.{fold_more}
use Rattle.moka_sync_model.specs.declared.operation.Read.{Read}
use Rattle.moka_sync_model.specs.Entry.{Entry}
use Rattle.moka_queues.specs.declared.logs.LoggedRead.{LoggedRead}
use Rattle.moka_queues.specs.LoggedReads.{reads_of}
use Rattle.moka_core.specs.MapTurn.{touched_by}
use Rattle.moka_core.specs.MapState.{MapState}
use Rattle.moka_core.proofs.map.Map.touch_all.Goals as goal

-- the map with these entries
abbrev with_entries : {K V S : Type 0} → MapState K V S → List (Entry K V) → MapState K V S
with_entries m entries = record m { entries = entries }

-- the read of what is logged
abbrev read_of : LoggedRead → Read
read_of logged = logged.read

pub loop-logged-preserved : goal.loop-logged-preserved
loop-logged-preserved g c =
    let was = c.args.self.now in
    let reads = reads_of c.args.reads.now in
    let now = c.loop-logged.reads in
    let i = c.loop-logged.logged-index in
    let read = (get_or now i c.logged-item.result).read in
    let below : i < length now = omega (arith, c.loop-logged-test.true, c.loop-logged.auto.reads) in
    let at : get_or reads i read ≡ read =
    ap (λ rs. get_or rs i read) (sym c.loop-logged.invariant.1) ∙ get_or-map read_of now i c.logged-item.result read below in
    let next : fold touched_by was.entries (take (i + 1) reads) ≡ touched_by (fold touched_by was.entries (take i reads)) read =
    fold_more touched_by was.entries reads i read (omega (arith, c.loop-logged-test.true, length-map c.args.reads.now read_of))
    ∙ ap (touched_by (fold touched_by was.entries (take i reads))) at in (
      c.touch-logged.ensures ∙ ap (λ m. with_entries m (touched_by m.entries read)) c.loop-logged.invariant.0
          ∙ ap (with_entries was) (sym next),
      map-set_same read_of now i _ c.logged-item.result refl ∙ c.loop-logged.invariant.1,
    )

pub returns-clause-entries : goal.returns-clause-entries
returns-clause-entries g c =
    let was = c.args.self.now in
    let reads = reads_of c.args.reads.now in
    let end : c.loop-logged.logged-index ≡ length reads =
    omega (arith, c.loop-logged-test.false, c.loop-logged.auto.logged-index-end, length-map c.args.reads.now read_of) in
    c.loop-logged.invariant.0
    ∙ ap (λ rs. with_entries was (fold touched_by was.entries rs)) (ap (λ n. take n reads) end ∙ take-length reads)
