-- Sheet A priced: the examples hold of the definitions, by computing. Assumes nothing.
use Rattle.model.proofs.Basics.{T}
use Rattle.model.specs.{count_below, is_between, map_below, bit, with, without, full, size, watched_in, is_order, keeps_pair, keeps_every_pair, pair_within}
use Rattle.model.specs.{keeps_pairs_within, is_admissible, is_order_within, admissible_orders, no_order, essential, load, rule_charge, charges, step_cost}
use Rattle.model.specs.{in_sheet, is_solution, round_cost, plan_cost, plans, solutions, cheapest, is_completion, completions, cost_to_go, number_at, signed}
use Rattle.model.specs.{kind1, field_width, bytes_before, entry_bytes, line_at, line_body, line_offset, entries, field_at, decode_by, layout_of, decode}
use Rattle.model.specs.{too_short, wrong_kind, wrong_entries, some_wrong_entries, wrong_line, wrong_length, wrong_places, bad_door, bad_start, bad_pair}
use Rattle.model.specs.{bad_rule, some_bad_door, some_bad_start, some_bad_pair, some_bad_rule, out_of_range, lacks_door, some_lacks_door, light_list, too_light}
use Rattle.model.specs.{sheet_tests, unless_fault}
use Rattle.rank.specs.Binomials.{most_lists}
use Rattle.kernel_layers.specs.Layers.{layer_cells}
use Rattle.price.specs.Pricing.{short_layer, layer_tests, unless_short, price_of, price, layer_of, price_row, row_place}
use Rattle.price.specs.Examples.{check_priced}

pub priced_a : T check_priced
unfolding check_priced short_layer layer_tests unless_short price_of price layer_of price_row row_place layer_cells most_lists
    count_below is_between map_below bit with without full size watched_in
    is_order keeps_pair keeps_every_pair pair_within keeps_pairs_within is_admissible is_order_within admissible_orders no_order essential
    load rule_charge charges step_cost in_sheet is_solution round_cost plan_cost plans solutions cheapest is_completion completions cost_to_go number_at signed
    kind1 field_width bytes_before entry_bytes line_at line_body line_offset entries field_at decode_by layout_of decode
    too_short wrong_kind wrong_entries some_wrong_entries wrong_line wrong_length wrong_places
    bad_door bad_start bad_pair bad_rule some_bad_door some_bad_start some_bad_pair some_bad_rule out_of_range
    lacks_door some_lacks_door light_list too_light sheet_tests unless_fault
priced_a = tt
