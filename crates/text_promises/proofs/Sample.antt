-- The sample of docs/TABLE.md on paper, and one with answers of each kind: computed from the stored routes alone.
use Prim.Native.Nat.{ℕ}
use Prim.Native.String.{String}
use mathlib.Core.Path.{◌≡◌, refl}
use mathlib.Core.Bool.{Bool, true}
use mathlib.Core.List.{[]}
use Rattle.text_spelling.specs.Spelling.{spelled, same_bytes}
use Rattle.rules.proofs.Worked.{T}
use Rattle.text_requests.specs.Shapes.{digit, front_digit, digits, value, begins_with_number, number_at, no_numbers, set_octet, set_length, set_hop, item, items, fit_shape, request}
use Rattle.text_answers.specs.Texts.{last_digits, decimal, refused_text, update_text, route_text, none_text}
use Rattle.text_lines.specs.Lines.{lines_after, lines}
use Rattle.rules.specs.Calls.{each}
use Rattle.promises.specs.History.{of_party, routes_of, about, without, with_hop, written, noted}
use Rattle.promises.specs.Demands.{paper}
use Rattle.promises.proofs.Showing.{showing}
use Rattle.text_promises.specs.Paper.{calls_of, find_text, text_by, paper_answers}

-- to unfold this is to unfold all that the paper computes with
unfoldable pub paper_computing : ℕ
unfolding showing digit front_digit digits value begins_with_number number_at no_numbers set_octet set_length set_hop item items fit_shape request last_digits decimal refused_text update_text route_text none_text lines_after lines calls_of find_text text_by paper_answers paper each noted written without with_hop about of_party routes_of
paper_computing = 0

-- an input is answered so, on paper, by a table with settings T that was cleared
abbrev written_to : (input texts : String) → Bool
written_to input texts = same_bytes (paper_answers T [] (lines (spelled input))) (spelled texts)

-- the last line of the input need not end
pub sample : written_to "add 10.0.0.0/8 7\nadd 10.1.0.0/16 9\nfind 10.2.2.3\nfind 11.0.0.1\ndrop 10.1.0.0/16\nfind 10.1.2.3\ndrop 10.1.0.0/16" "ok\nok\n7 8 2\nnone 0\nok\n7 8 1\nrefused 7\n" ≡ true
unfolding paper_computing
sample = refl

-- the default, a full bucket and its place again, each refusal by its number, a line that cannot be read, and a stored
-- prefix added again, in its full bucket, with another hop
pub another : written_to "add 0.0.0.0/0 3\nfind 12.0.0.1\nmove 0.0.0.0/0 4\nadd 10.0.0.0/8 7\nadd 8.0.0.0/8 5\nadd 9.0.0.0/8 6\nfind 9.1.1.1\nadd 10.0.0.0/33 1\nadd 10.0.0.1/8 1\nadd 127.0.0.0/8 65536\nadd 11.0.0.0/8 65536\nadd 10.0.0.0/8 1\nfind 10.2.2.3\nfind 10.0.0.256\ndrop 8.0.0.0/8\nadd 9.0.0.0/8 6\nfind 9.1.1.1\ndrop 0.0.0.0/0\nfind 8.1.2.3\n" "ok\n3 0 0\nok\nok\nok\nrefused 8\n4 0 1\nrefused 3\nrefused 4\nrefused 11\nrefused 5\nok\n1 8 1\nunreadable\nok\nok\n6 8 1\nok\nnone 1\n" ≡ true
unfolding paper_computing
another = refl
