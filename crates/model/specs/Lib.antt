pub mod Folds
pub mod TaskList
pub mod Sheet
pub mod Orders
pub mod Cost
pub mod Plans
pub mod Meanings
pub mod Bytes
pub mod Answer
pub mod SheetLayout
pub mod Faults
pub mod PlanLayout
pub mod PlanInHand
pub mod Validating
pub mod Planning
pub mod Printing
pub mod Passing
pub mod Demands
pub mod Lightest
pub mod Figures
pub mod Examples
pub mod Neighbours
pub mod Corners
pub mod Method
unfoldable pub use Folds.{count_below, is_between, map_below}
pub use Folds.{all_below, any_below, sum_below, flat_map_below, passing_below, lists_below, all_in, keep_if, is_empty, cheaper, first_least, least}
pub use Folds.{count_of, index_of, same_list}
unfoldable pub use TaskList.{bit, with, without, full, size, watched_in}
pub use TaskList.{member, mask_of}
unfoldable pub use Orders.{is_order, keeps_pair, keeps_every_pair, pair_within, keeps_pairs_within, is_admissible, is_order_within, admissible_orders}
unfoldable pub use Orders.{orders_within, no_order, essential, pairs_allow}
unfoldable pub use Cost.{load, rule_charge, charges, step_cost}
pub use Cost.{load_below, cost}
unfoldable pub use Plans.{in_sheet, is_solution, round_cost, plan_cost, plans, solutions, cheapest, is_completion, completions, cost_to_go}
unfoldable pub use Plans.{cheapest_completion}
pub use Plans.{Plan}
pub use Meanings.{SolutionMeans, CompletionMeans}
unfoldable pub use Bytes.{number_at, signed, bytes_of, overwrite, overwrite_at, written_at}
pub use Answer.{refused, accepted, Test, ◌when◌, refuse_if, refuse_first, status, placed, placed_number}
unfoldable pub use SheetLayout.{kind1, field_width, bytes_before, entry_bytes, line_at, line_body, line_offset, entries, field_at, decode_by}
unfoldable pub use SheetLayout.{layout_of, decode}
pub use SheetLayout.{Layout, tasks_body, doors_body, starts_body, pairs_body, rules_body, points_body, distances_body, bodies, max_tasks, max_doors}
pub use SheetLayout.{max_starts, max_pairs, max_rules, max_points, body_at}
unfoldable pub use Faults.{too_short, wrong_kind, wrong_entries, some_wrong_entries, wrong_line, wrong_length, wrong_places, bad_door, bad_start}
unfoldable pub use Faults.{bad_pair, bad_rule, some_bad_door, some_bad_start, some_bad_pair, some_bad_rule, out_of_range, lacks_door, some_lacks_door}
unfoldable pub use Faults.{light_list, too_light, sheet_tests, unless_fault, read_sheet}
pub use Faults.{Counts, tasks_left, points_left}
unfoldable pub use PlanLayout.{plan_start_at, plan_doors_at, plan_cost_at, plan_length, line_bytes, plan_head, door_bytes, plan_bytes, wrong_tasks}
unfoldable pub use PlanLayout.{short_room, write_tests, write_answer, bytes_written, write_plan, wrong_head, ill_formed, start_in, door_in, doors_in}
unfoldable pub use PlanLayout.{cost_in, door_array, read_tests, read_plan}
pub use PlanLayout.{max_plan_doors, plan_kind, PlanWritten, PlanRead, start_left, doors_left, cost_left}
unfoldable pub use PlanInHand.{no_doors, with_door, in_hand}
pub use PlanInHand.{with_doors}
unfoldable pub use Validating.{not_in_sheet, done_twice, breaks_pair, wrong_cost, route_tests, plan_tests, validate}
unfoldable pub use Planning.{cells_needed, few_cells, room_tests, plan_for, cell_after, cells_after, plan}
pub use Planning.{or_no_order, Planned, carried_out}
unfoldable pub use Printing.{decimal, refusal_line, step_line, plan_lines, printed_with, print, printed}
pub use Printing.{ascii, decimal_by, line_end, step_lines, answer_lines, Printed, print_input, print_cells}
pub use Passing.{EntriesWithin, CountsWithin, InRange, LeastCounts, Served, Passes, Plannable, LoadsHold, SomeTooLight, up, down}
unfoldable pub use Lightest.{lightest_too_light, tests_before, plan_before}
pub use Lightest.{lightest_below, LightestHolds, SinceThen}
unfoldable pub use Method.{with_in, lists_of, full_of, is_free, can_come_first, first_doors, meets, senders_of, something_left}
pub use Method.{mask_bits, senders_below, strike, strike_below, strike_off, legs, charges_on, open_on}
