-- The starred lines of document 01, and further examples, hold of the definitions, by computing. Assumes nothing.
use Rattle.model.proofs.Basics.{◌≡◌, refl, T}
use Rattle.model.specs.{Neighbours.check_method, Neighbours.check_neighbours, Corners.check_corners, count_below, is_between, map_below, bit, with, without, full}
use Rattle.model.specs.{size, watched_in, is_order, keeps_pair, keeps_every_pair, pair_within, keeps_pairs_within, is_admissible}
use Rattle.model.specs.{is_order_within, admissible_orders, no_order, essential, pairs_allow, load, rule_charge, charges, step_cost, in_sheet}
use Rattle.model.specs.{is_solution, round_cost, plan_cost, plans, solutions, cheapest, is_completion, completions, cost_to_go, number_at}
use Rattle.model.specs.{signed, bytes_of, overwrite, overwrite_at, written_at, accepted, kind1, field_width, bytes_before, entry_bytes}
use Rattle.model.specs.{line_at, line_body, line_offset, entries, field_at, decode_by, layout_of, decode, too_short, wrong_kind, wrong_entries}
use Rattle.model.specs.{some_wrong_entries, wrong_line, wrong_length, wrong_places, bad_door, bad_start, bad_pair, bad_rule, some_bad_door}
use Rattle.model.specs.{some_bad_start, some_bad_pair, some_bad_rule, out_of_range, lacks_door, some_lacks_door, light_list, too_light, sheet_tests}
use Rattle.model.specs.{unless_fault, read_sheet, plan_start_at, plan_doors_at, plan_cost_at, plan_length, line_bytes, plan_head, door_bytes}
use Rattle.model.specs.{plan_bytes, wrong_tasks, short_room, write_tests, write_answer, bytes_written, write_plan, wrong_head, ill_formed}
use Rattle.model.specs.{start_in, door_in, doors_in, cost_in, door_array, read_tests, read_plan, no_doors, with_door, in_hand, not_in_sheet}
use Rattle.model.specs.{done_twice, breaks_pair, wrong_cost, route_tests, plan_tests, validate, cells_needed, few_cells, room_tests, plan_for}
use Rattle.model.specs.{cell_after, cells_after, plan, decimal, refusal_line, step_line, plan_lines, printed_with, print, printed, with_in}
use Rattle.model.specs.{lists_of, full_of, meets, senders_of, lightest_too_light, tests_before, plan_before}
use Rattle.model.specs.Examples.{sheet_a, check_starred, check_further, check_aboard}

examples : T check_starred × T check_further × T check_neighbours × T check_method × T check_aboard × T check_corners × (read_sheet sheet_a ≡ accepted (record { tasks = 2; points = 3 }))
unfolding check_starred check_further check_neighbours check_method check_aboard check_corners
    count_below is_between map_below bit with without full size watched_in with_in lists_of full_of meets senders_of
    is_order keeps_pair keeps_every_pair pair_within keeps_pairs_within is_admissible is_order_within admissible_orders no_order essential pairs_allow
    load rule_charge charges step_cost in_sheet is_solution round_cost plan_cost plans solutions cheapest is_completion completions cost_to_go
    number_at signed bytes_of overwrite overwrite_at written_at
    kind1 field_width bytes_before entry_bytes line_at line_body line_offset entries field_at decode_by layout_of decode
    too_short wrong_kind wrong_entries some_wrong_entries wrong_line wrong_length wrong_places
    bad_door bad_start bad_pair bad_rule some_bad_door some_bad_start some_bad_pair some_bad_rule out_of_range
    lacks_door some_lacks_door light_list too_light sheet_tests unless_fault read_sheet lightest_too_light tests_before plan_before
    plan_start_at plan_doors_at plan_cost_at plan_length line_bytes plan_head door_bytes plan_bytes wrong_tasks short_room write_tests write_answer bytes_written write_plan
    wrong_head ill_formed start_in door_in doors_in cost_in door_array read_tests read_plan no_doors with_door in_hand
    not_in_sheet done_twice breaks_pair wrong_cost route_tests plan_tests validate cells_needed few_cells room_tests plan_for cell_after cells_after plan
    decimal refusal_line step_line plan_lines printed_with print printed
examples = (tt, tt, tt, tt, tt, tt, refl)

-- the starred lines, all of them
pub starred : T check_starred
starred = examples.0

-- room, the numbers 10 to 15, plans written, read and in hand, refusals in print, and a sheet of our own
pub further : T check_further
further = examples.1

-- two numbers at once, the limits of the table, numbers of two bytes, and what is allowed
pub neighbours : T check_neighbours
neighbours = examples.2

-- the code's masks, its numbers of lists and full lists, lists that meet, and what a task waits for
pub method : T check_method
method = examples.3

-- a crate taken aboard in the round: A with end load 2, with and without pairs
pub taken_aboard : T check_aboard
taken_aboard = examples.4

-- four rules of least count 2, a load of more than 16 bits, 14 at each limit, fourteen doors lent, a cost of eight bytes, the words that are printed
pub corners : T check_corners
corners = examples.5

-- A reads, with two tasks and three points
pub reads_a : read_sheet sheet_a ≡ accepted (record { tasks = 2; points = 3 })
reads_a = examples.6
