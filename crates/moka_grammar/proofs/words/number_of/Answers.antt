use Rattle.std.proofs.Common.{sym, subst}
use Rattle.std.specs.Str.Parse.{ParsesUnsigned}
use Rattle.moka_grammar.proofs.NumberLemmas.{digits_are_text, parsed_ok, parsed_err}
use Rattle.moka_grammar.proofs.words.number_of.Goals as goal

pub returns-in_default : goal.returns-in_default
returns-in_default c = absurd (c.in_default.ensures.cases.0 (digits_are_text _ (sym c.if-not-is_digits.ensures)))

pub returns-in-Ok-parse : goal.returns-in-Ok-parse
returns-in-Ok-parse c =
    parsed_ok c.args.word.now c.parse.result c.in-Ok-parse.number (sym c.if-has_leading_zero.ensures) (sym c.if-not-is_digits.ensures)
    (subst (λ word. ParsesUnsigned 64 10 word c.parse.result) c.in-Ok.ensures.cases.0 c.parse.ensures.value.0) c.in-Ok-parse.is

pub returns-in-Err : goal.returns-in-Err
returns-in-Err c =
    parsed_err c.args.word.now c.parse.result _ (sym c.if-has_leading_zero.ensures) (sym c.if-not-is_digits.ensures)
    (subst (λ word. ParsesUnsigned 64 10 word c.parse.result) c.in-Ok.ensures.cases.0 c.parse.ensures.value.0) c.in-Err.is
