-- Every word opened: who computes with the words names this.
use Rattle.law.specs.Words.{need, need_all, pick, table, joined, sum_of, seek, tally, largest, halves_up, apart}
use Rattle.law.specs.Digits.{up_to, past, has, is_digit, all_digits, is_number, value_from, number_to}

unfoldable pub words : Type 0
unfolding need need_all pick table joined sum_of seek tally largest halves_up apart up_to past has is_digit all_digits is_number value_from number_to
words = Unit
