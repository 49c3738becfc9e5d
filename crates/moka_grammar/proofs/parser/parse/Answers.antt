use Rattle.std.proofs.Common.{◌≡◌, sym, subst, ap, ◌∙◌, Err}
use Rattle.std.proofs.lemmas.Result.{err_from_is_err_and}
use Rattle.moka_grammar.specs.Lines.{line_words, LineFits}
use Rattle.moka_grammar.specs.CoreLines.{core_words, CoreFits}
use Rattle.moka_grammar.specs.SketchLines.{sketch_words, SketchFits}
use Rattle.moka_grammar.specs.Grammar.{IsBadAt, CacheScript, CoreScript, SketchScript}
use Rattle.moka_grammar.specs.ReadingLines.{line_from_words, sketch_from_words}
use Rattle.moka_grammar.specs.ReadingCoreLines.{core_from_words}
use Rattle.moka_grammar.specs.declared.line.Header.TheVariants.{Cache, Core, Sketch}
use Rattle.moka_grammar.specs.declared.parser.ParseError.TheVariants as parse_error
use Rattle.moka_grammar.proofs.LineListLemmas.{all_read, bad_where_stopped}
use Rattle.moka_grammar.proofs.RequestLemmas.{reads_line}
use Rattle.moka_grammar.proofs.CoreLineLemmas.{reads_core}
use Rattle.moka_grammar.proofs.SketchLineLemmas.{reads_sketch}
use Rattle.moka_grammar.proofs.ScriptLemmas.{script_read, bad_line_read, first_bad}
use Rattle.moka_grammar.proofs.parser.parse.Goals as goal

pub returns-in-Err-Bad-clause-bad : goal.returns-in-Err-Bad-clause-bad
returns-in-Err-Bad-clause-bad g c n e =
    let one : 1 ≡ n = cc in
    subst (IsBadAt c.args.bytes.now) one (first_bad _ (rw c.in-Err-Bad.field-0-is at c.in-Err-Bad.ensures))

pub returns-in_err-lines-in-Cache-clause-bad : goal.returns-in_err-lines-in-Cache-clause-bad
returns-in_err-lines-in-Cache-clause-bad g c n e =
    let header = c.in-Cache.header in
    let residual = c.from_residual-in_err-lines-in-Cache in
    let p = err_from_is_err_and residual.result residual.ensures.1 in
    let same : p.0 ≡ parse_error.BadLine n = cc (p.1, e) in
    let (count, number, stops) = c.in_err-lines-in-Cache.ensures.bad n (ap Err (sym p.2 ∙ same)) in
    bad_line_read _ _ (Cache header) _ count n c.in-Ok.ensures c.in-Cache.is
    (bad_where_stopped line_words (LineFits header) (line_from_words header) (reads_line header) _ count stops) number

pub returns-in_err-lines-in-Core-clause-bad : goal.returns-in_err-lines-in-Core-clause-bad
returns-in_err-lines-in-Core-clause-bad g c n e =
    let options = c.in-Core.options in
    let residual = c.from_residual-in_err-lines-in-Core in
    let p = err_from_is_err_and residual.result residual.ensures.1 in
    let same : p.0 ≡ parse_error.BadLine n = cc (p.1, e) in
    let (count, number, stops) = c.in_err-lines-in-Core.ensures.bad n (ap Err (sym p.2 ∙ same)) in
    bad_line_read _ _ (Core options) _ count n c.in-Ok.ensures c.in-Core.is
    (bad_where_stopped core_words (CoreFits options) (core_from_words options) (reads_core options) _ count stops) number

pub returns-in_err-lines-in-Sketch-clause-bad : goal.returns-in_err-lines-in-Sketch-clause-bad
returns-in_err-lines-in-Sketch-clause-bad g c n e =
    let residual = c.from_residual-in_err-lines-in-Sketch in
    let p = err_from_is_err_and residual.result residual.ensures.1 in
    let same : p.0 ≡ parse_error.BadLine n = cc (p.1, e) in
    let (count, number, stops) = c.in_err-lines-in-Sketch.ensures.bad n (ap Err (sym p.2 ∙ same)) in
    bad_line_read _ _ (Sketch c.in-Sketch.cap) _ count n c.in-Ok.ensures c.in-Sketch.is
    (bad_where_stopped sketch_words SketchFits sketch_from_words reads_sketch _ count stops) number

pub returns-in_ok-lines-in-Cache-clause-found : goal.returns-in_ok-lines-in-Cache-clause-found
returns-in_ok-lines-in-Cache-clause-found g c =
    let header = c.in-Cache.header in
    script_read _ _ _ (CacheScript header c.in_ok-lines-in-Cache.lines.items) c.in-Ok.ensures c.in-Cache.is
    (all_read line_words (LineFits header) (line_from_words header) (reads_line header) _ _ c.in_ok-lines-in-Cache.ensures.found)

pub returns-in_ok-lines-in-Core-clause-found : goal.returns-in_ok-lines-in-Core-clause-found
returns-in_ok-lines-in-Core-clause-found g c =
    let options = c.in-Core.options in
    script_read _ _ _ (CoreScript options c.in_ok-lines-in-Core.lines.items) c.in-Ok.ensures c.in-Core.is
    (all_read core_words (CoreFits options) (core_from_words options) (reads_core options) _ _ c.in_ok-lines-in-Core.ensures.found)

pub returns-in_ok-lines-in-Sketch-clause-found : goal.returns-in_ok-lines-in-Sketch-clause-found
returns-in_ok-lines-in-Sketch-clause-found g c =
    script_read _ _ _ (SketchScript c.in-Sketch.cap c.in_ok-lines-in-Sketch.lines.items) c.in-Ok.ensures c.in-Sketch.is
    (all_read sketch_words SketchFits sketch_from_words reads_sketch _ _ c.in_ok-lines-in-Sketch.ensures.found)
