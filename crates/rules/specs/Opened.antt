-- Every rule opened, with those below: who computes with the rules names this.
use Rattle.field.specs.Opened.{fields}
use Rattle.reading.specs.Opened.{readings}
use Rattle.rules.specs.Records.{head_of, pair_of, masks_of, day_of, survey_of, batch_of, outfall_of, water_day_of, water_of, body_of, record_in, size_in, records_from, records_of}
use Rattle.rules.specs.Hours.{bit, pair_at, slot_of, slots_of, running_of, missing_of, running, lacking, run_masks, measured_masks, runs_at, lacks_at, first_missing}
use Rattle.rules.specs.Lines.{has_survey, besides, surveyed, with_bit, with_pair, measured_with, at_day, put_survey, put_surveys, days_after, hours, surveys, fuel}
use Rattle.rules.specs.Outfalls.{day_of_outfall, days_in_turn, put_on_days, surveyed_days, outfall_days, outfall_surveys, as_head, head_of_line}
use Rattle.rules.specs.Method.{is_automatic, is_manual, method_of, method, daily_method_of, outfall_method}
use Rattle.rules.specs.Slots.{run, valids, runs, lacks, running_in, missing_in, first_missing_in, map_slot, entry, entries}
use Rattle.rules.specs.Fill.{zeroes, cs, ls, window, short, long, fill, fill_both, mean_up, same, filled, unfilled}
use Rattle.rules.specs.Tables.{at, q, k, class, table_a1, no_class, class_of, is_pulverised, is_grate, grate_dust, dust_entry, oxides_entry, balance_of, oxides_of, dust_of, coefficients_of}
use Rattle.rules.specs.OnPaper.{record_on_paper, coefficients_on_paper}
use Rattle.rules.specs.Grams.{values_of, slots, hourly, amount, automatic, survey_values, manual, sulphur_of, fuel_top, fuel_bottom, fuel_grams, grams, outfall_grams, grams_of}
use Rattle.rules.specs.Row.{stack_row, outfall_row, row_of, rows_of, total_of, totals_of, stack_held, held, cells, concentration_cells, flow_cells}
use Rattle.rules.specs.Fields.{head_fields, strays_of, mask_fields, measured_fields, blank_fields, hour_fields, reading_fields, survey_fields, batch_fields, outfall_fields, water_day_fields}
use Rattle.rules.specs.Judge.{refuse, fine, first, key, place_head, first_wrong, range_head, place_day, range_masks, blamed, judge_pair, judge_hours, surveys_left, survey_tests, place_enforcement, place_plant, judge_stopped, judge_survey, place_batch, range_batch, judge_entry, place_end, judge_fuel, judge_method, place_water_day, judge_stopped_day, judge_day_survey, judge_record, judge_readings, judge, at_place}
use Rattle.rules.specs.Walk.{floor_of, surveys_of, view_of, states_of, runs_of, begun, with_day, with_enforcement, with_plant, with_batch, begun_outfall, with_water_day, with_day_enforcement, with_day_plant, taken_between, taken_inside, taken_in_water, taken, ended, fault_of, walk, outcome}
use Rattle.rules.specs.Account.{refusal, acceptance, rows_fit, work_fits, answer_from, answer_of, rows_from, rows_after, cells_from, work_after}

unfoldable pub rules : Type 0
unfolding fields readings head_of pair_of masks_of day_of survey_of batch_of outfall_of water_day_of water_of body_of record_in size_in records_from records_of bit pair_at slot_of slots_of running_of missing_of running lacking run_masks measured_masks runs_at lacks_at first_missing has_survey besides surveyed with_bit with_pair measured_with at_day put_survey put_surveys days_after hours surveys fuel is_automatic is_manual method_of method day_of_outfall days_in_turn put_on_days surveyed_days outfall_days outfall_surveys as_head head_of_line daily_method_of outfall_method run valids runs lacks running_in missing_in first_missing_in map_slot entry entries zeroes cs ls window short long fill fill_both mean_up same filled unfilled at q k class table_a1 no_class class_of is_pulverised is_grate grate_dust dust_entry oxides_entry balance_of oxides_of dust_of coefficients_of record_on_paper coefficients_on_paper values_of slots hourly amount automatic survey_values manual sulphur_of fuel_top fuel_bottom fuel_grams grams outfall_grams grams_of stack_row outfall_row row_of rows_of total_of totals_of stack_held held cells concentration_cells flow_cells head_fields strays_of mask_fields measured_fields blank_fields hour_fields reading_fields survey_fields batch_fields outfall_fields water_day_fields refuse fine first key place_head first_wrong range_head place_day range_masks blamed judge_pair judge_hours surveys_left survey_tests place_enforcement place_plant judge_stopped judge_survey place_batch range_batch judge_entry place_end judge_fuel judge_method place_water_day judge_stopped_day judge_day_survey judge_record judge_readings judge at_place floor_of surveys_of view_of states_of runs_of begun with_day with_enforcement with_plant with_batch begun_outfall with_water_day with_day_enforcement with_day_plant taken_between taken_inside taken_in_water taken ended fault_of walk outcome refusal acceptance rows_fit work_fits answer_from answer_of rows_from rows_after cells_from work_after
rules = Unit
