-- Every rule of judging opened, down to the tests of each field and place; what counts bits and reads bytes stays closed. Who computes with judging names this.
use Rattle.law.specs.Words.{need, need_all, pick}
use Rattle.rules.specs.Refusals.{fault_in, told}
use Rattle.rules.specs.OnPaper.{record_on_paper, coefficients_on_paper}
use Rattle.rules.specs.Hours.{missing_of}
use Rattle.rules.specs.Method.{is_automatic, is_manual, method_of, daily_method_of}
use Rattle.rules.specs.Outfalls.{as_head}
use Rattle.rules.specs.Fields.{head_fields, strays_of, mask_fields, survey_fields, batch_fields, outfall_fields, water_day_fields}
use Rattle.rules.specs.Judge.{refuse, fine, first, key, place_head, first_wrong, range_head, place_day, range_masks, blamed, judge_pair, surveys_left, survey_tests, place_enforcement, place_plant, judge_stopped, judge_survey, place_batch, range_batch, judge_entry, place_end, judge_fuel, judge_method, place_water_day, judge_stopped_day, judge_day_survey, judge_record}

unfoldable pub judging : Type 0
unfolding need need_all pick fault_in told record_on_paper coefficients_on_paper missing_of is_automatic is_manual method_of daily_method_of as_head head_fields strays_of mask_fields survey_fields batch_fields outfall_fields water_day_fields refuse fine first key place_head first_wrong range_head place_day range_masks blamed judge_pair surveys_left survey_tests place_enforcement place_plant judge_stopped judge_survey place_batch range_batch judge_entry place_end judge_fuel judge_method place_water_day judge_stopped_day judge_day_survey judge_record
judging = Unit
