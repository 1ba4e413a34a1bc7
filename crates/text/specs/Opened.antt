-- Every line's definition opened, with the rules below: who computes with texts names this.
use Rattle.rules.specs.Opened.{rules}
use Rattle.text.specs.Numbers.{decimal_from, decimal, spaced}
use Rattle.text.specs.Line.{refused_line, totals_line, yes_line, wrong_line, said_line}

unfoldable pub texts : Type 0
unfolding rules decimal_from decimal spaced refused_line totals_line yes_line wrong_line said_line
texts = Unit
