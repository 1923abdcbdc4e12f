-- What a worked history starts from, and all that is unfolded to compute one.
use Prim.Native.Nat.{ℕ}
use lib.ListN.{replicate}
use Rattle.rules.specs.Tools.{those}
use Rattle.rules.specs.Table.{Memory, claims, bits_where, vector_of, down_from, bit_set, set_bits, search as searched, route_answer, default_answer, place_answer, refused, answer_of, lookup, one_if}
use Rattle.rules.proofs.Worked.{computing as rules_computing}
use Rattle.rules.specs.Calls.{word_sized, all_word_sized, act, each, run}
use Rattle.promises.specs.History.{of_party, routes_of, about, without, with_hop, written, noted, on_paper, stored_by}
use Rattle.promises.specs.Demands.{number_given, needs_place, add_number, withdraw_number, change_number, exists, sum, number, crowded, beside, landings, overflows, matches, marks, covered, probes_down_to, longest, longer}
use Rattle.promises.proofs.Matches.{answer_by}

-- lent memory that held sevens, of the sizes of T and of Z
abbrev pub sevens : Memory
sevens = record { counters = replicate 512 7; slots = replicate 258 7 }

-- to unfold this is to unfold all that a history computes with
unfoldable pub computing : ℕ
unfolding rules_computing act each run of_party routes_of about without with_hop written noted on_paper stored_by
computing = 0

-- and this, all that is due and all that a lookup computes with
unfoldable pub showing : ℕ
unfolding word_sized all_word_sized number_given needs_place add_number withdraw_number change_number exists sum number crowded beside landings overflows matches marks covered probes_down_to longest longer answer_by lookup answer_of refused place_answer route_answer default_answer searched set_bits bit_set vector_of bits_where claims down_from those one_if computing
showing = 0
