use Rattle.std.proofs.Common.{◌≡◌, ◌≤◌, true, sym, subst}
use Rattle.std.specs.List.{AllByRecursion}
use Rattle.fields.specs.Fields.{left}
use Rattle.fields.specs.Numeral.{IsNumber}
use Rattle.rows.specs.Numbers.{numbers_in}
use Rattle.format.specs.Steps.{sized}
use Rattle.format.proofs.Stating.{whole_line, word_first, short_later, judged_ok}
use Rattle.format.proofs.statement.Statement.read.Goals as goal

pub read_numbers-requires : goal.read_numbers-requires
read_numbers-requires g c =
    let line = c.args.line.now in
    let first = word_first g.W.Keyword.spelling line _ _ _ c.new-fields.ensures.left c.next_word.ensures in
    subst (λ l. sized l ≤ 81) (sym first.1) (short_later line c.if-line-gt-LIMIT.false)

pub returns : goal.returns
returns g c =
    let spelling = g.W.Keyword.spelling in
    let counts = g.W.Keyword.counts in
    let line = c.args.line.now in
    let w = c.in_ok-word.word in
    let zs = numbers_in c.in_ok-numbers.numbers in
    let first = word_first spelling line _ _ _ c.new-fields.ensures.left c.next_word.ensures in
    let word = judged_ok spelling counts c.next_word.result c.field_count.result w _ first.0 c.in_ok-word.ensures in
    let count = subst (λ n. counts w n ≡ true) c.field_count.ensures.count word.1 in
    let read = c.in_ok-numbers.ensures in
    let whole = whole_line spelling w line zs (left c.next_word.new.fields) word.0 read.1 first.1 in
    (c.if-line-gt-LIMIT.false, ((w, word.0), ((w, word.0, count), (subst (AllByRecursion IsNumber) first.1 read.0, whole))))
