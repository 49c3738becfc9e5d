use Rattle.std.proofs.Common.{rules, ap, ◌∙◌}
use Rattle.std.specs.Str.{bytes_eq}
use Rattle.moka_unsync.specs.Invalidate.{after_invalidate_if}
use Rattle.moka_script.specs.ScriptKeys.{script_keys}
use Rattle.moka_script.proofs.UnsyncRunLemmas.{answers_are}
use Rattle.moka_script.proofs.unsync.invalidate_if.Goals as goal

pub returns : goal.returns
returns g c =
    let (answers, told, left) = c.invalidate_entries_if.ensures.step in
    record {
      step = left ∙ ap (after_invalidate_if script_keys c.args.cache.now)
          (answers_are _ _ (λ value. bytes_eq value.text c.args.text.now)
          (λ key value answer next called. search rules) c.args.cache.now.contents.entries answers told);
    }
