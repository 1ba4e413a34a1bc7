-- The rules of the tables opened, and the words that choose: what the proofs of the lookups compute with.
use Rattle.law.specs.Words.{need, pick}
use Rattle.rules.specs.Tables.{at, q, k, class, table_a1, no_class, class_of, is_pulverised, is_grate, grate_dust, dust_entry, oxides_entry, balance_of, oxides_of, dust_of, coefficients_of}

unfoldable pub lookups : Type 0
unfolding need pick at q k class table_a1 no_class class_of is_pulverised is_grate grate_dust dust_entry oxides_entry balance_of oxides_of dust_of coefficients_of
lookups = Unit
