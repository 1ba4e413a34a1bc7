-- Every definition opened, with the words below: who computes with filings names this.
use Rattle.law.specs.Opened.{words}
use Rattle.filing.specs.Filing.{starts_with, one_more, numbers_in, values_in, all_fit, totals_from, is_row, read_from, read_of, totals_told, filing_on_paper}

unfoldable pub filings : Type 0
unfolding words starts_with one_more numbers_in values_in all_fit totals_from is_row read_from read_of totals_told filing_on_paper
filings = Unit
