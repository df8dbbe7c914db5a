-- The names of `std` and of `clap` that proofs cite.
pub use Rattle.std.proofs.Common.{◌≡◌, ◌∙◌, ◌||◌, ◌≤◌, ◌⊎◌, ℕ, Bool, cond, codes, true, false, not, refl, sym, ap, arith, subst, true≢false, inl, inr, List, [], ◌∷◌, ◌++◌, map, Option, Some, None, length, option_map, ◌<◌, ◌*◌, zero, suc, Result, Ok, Err, ap₂, ◌+◌, take, ◌&&◌, if◌then◌else◌, is_some, append-nil, append_assoc, ◌≢◌, IfErr, min, drop}
pub use Rattle.std.proofs.Math.Bool.{or-false}
pub use Rattle.std.proofs.lemmas.Bool.{or_parts, ne_eqb}
pub use Rattle.std.proofs.lemmas.Bool.Decides.{nat_tests}
pub use Rattle.std.proofs.lemmas.List.{length-map, map_more, take_all, map-append}
pub use Rattle.std.proofs.lemmas.List.Folds.{list_all-map, list_all_at}
pub use Rattle.std.proofs.lemmas.Result.{err_from_is_err_and, IfOk-weaker}
pub use Rattle.std.proofs.lemmas.Simd.{map-map}
pub use Rattle.std.proofs.lemmas.Slice.Eq.{bytes_eq-Decides}
pub use Rattle.std.specs.Borrow.{Bor}
pub use Rattle.std.specs.Box.{box_value}
pub use Rattle.std.specs.List.{list_all, list_any, slice_index_or}
pub use Rattle.std.specs.Option.{option_map_or}
pub use Rattle.std.specs.Prelude.{⊤, ◌==◌, find, unwrap_or, IfSome, nat_lt, option_and_then, slice_get, fold, encode_utf8}
pub use Rattle.std.specs.Str.{bytes_eq, chars}
pub use Rattle.std.specs.Str.Parse.{ParsesUnsigned, ExplainsUnsignedError, HasUnsignedDigitsIfOk}
pub use Rattle.clap.proofs.SimpleLemmas.{is_false, not_empty}
pub use Rattle.clap.proofs.ValueTestLemmas.{accepts-Accepts, Accepts-accepts}
pub use Rattle.clap.proofs.WalkLemmas.{both, find-map, raw_values-rows, first_value-rows, one_text-rows}
pub use Rattle.clap.specs.Facts.{parser_of_value, unwrap_or_range, explicit_source}
unfoldable pub use Rattle.clap.specs.Faults.{flags_fault, walk_fault}
pub use Rattle.clap.specs.Faults.{level_fault, values_fault, entered_fault, fault_of, action_fault, bundle_fault, bundle_step_fault, check_fault, defaults_fault, flag_word_fault, long_fault, option_fault, other_fault, react_fault, positional_fault, repeat_fault, set_fault, settle_fault, short_fault, step_fault, stray_fault, turn_fault, use_fault, word_fault}
pub use Rattle.clap.specs.Kinds.{Kinds, range_kinds, value_kinds, HasKind, IsAmong, check_kinds, or_else}
pub use Rattle.clap.specs.Lexer.{usize_max, long_of, long_of_rest, short_of, short_of_rest, strip_byte}
pub use Rattle.clap.specs.Simple.{Shape, filled, filled_from, help_rule, index_after, with_index, App, with_rule, with_subcommand, built_leaf, inherited, marked_built, built, label_of, entered, names_of, rows_at, argument_words, help_shape, subcommand_of}
unfoldable pub use Rattle.clap.specs.Takes.{walk_passes}
pub use Rattle.clap.specs.Takes.{is_given, bundle_passes, default_passes, flag_word_passes, is_valid, level_passes, long_passes, option_passes, other_passes, positional_passes, react_passes, settle_passes, step_passes, word_passes, built_takes, entered_passes}
pub use Rattle.clap.specs.ValueTests.{accepts}
pub use Rattle.clap.specs.Values.{read_as, reading_of, refused_kind}
unfoldable pub use Rattle.clap.specs.Walk.{walked, bundle_met}
pub use Rattle.clap.specs.Walk.{Rule, action_of, arg_by_id, rows_after, rule_of, most_values, nothing_held, reading_by, row_text, Held, Step, Waiting, Walk, idle, option, positional, next, trailing, value, after_flag, after_step, arg_by_index, arg_by_long, finished, flag_met, is_multiple, long_met, long_or_other, next_position, option_met, option_word, pending_count, plain_word, positional_held, pushed, reacted, settled, short_or_plain, subcommand_met, subcommand_or_other, takes_values, to_positional, word_met, answers_to, Names, walk, walk_from, Outcome, subcommand, done, waits, plain, refused, attached_value, arg_by_short, at_row, bundle, bundle_step, count_of, counted, has_long, has_short, new_count, default_rows, has_row, is_pending, more_values, settled_rows, short_met, takes_several, used, used_as, used_by_id, values_or_missing, walked_from, with_default, with_values, without}
pub use Rattle.clap.specs.Words.{Row, Text, IsUnsignedIn, ReadsOne, app_of, AddsArg, AddsSubcommand, one_of, Accepts, first_of, HasMatchesOf, is_simple, is_simple_and_free, kind_of, subcommand_rows_of, takes, found_of, rows_of}
