-- The sample of docs/TABLE.md: what is written to it, computed.
use mathlib.Core.Path.{◌≡◌, refl}
use mathlib.Core.Bool.{true}
use mathlib.Core.List.{[], ◌∷◌}
use lib.ListN.{replicate}
use Rattle.text_spelling.specs.Spelling.{spelled, same_bytes}
use Rattle.rules.specs.Tools.{fed}
use Rattle.rules.proofs.Worked.{T, computing}
use Rattle.text_requests.specs.Shapes.{digit, front_digit, digits, value, begins_with_number, number_at, no_numbers, set_octet, set_length, set_hop, item, items, fit_shape, request}
use Rattle.text_answers.specs.Texts.{last_digits, decimal, refused_text, update_text, route_text, none_text, lookup_text}
use Rattle.text_lines.specs.Lines.{updated, reply, line_reply, going, keep, end_line, take_byte, feed, finish, stream_text}

-- the sample is one chunk, and the table's memory is zero
pub sample : same_bytes (stream_text T (going (record { counters = replicate 512 0; slots = replicate 258 0 }) (replicate 65 0) 0) (spelled "add 10.0.0.0/8 7\nadd 10.1.0.0/16 9\nfind 10.2.2.3\nfind 11.0.0.1\ndrop 10.1.0.0/16\nfind 10.1.2.3\ndrop 10.1.0.0/16" ∷ [])) (spelled "ok\nok\n7 8 2\nnone 0\nok\n7 8 1\nrefused 7\n") ≡ true
unfolding computing digit front_digit digits value begins_with_number number_at no_numbers set_octet set_length set_hop item items fit_shape request last_digits decimal refused_text update_text route_text none_text lookup_text updated reply line_reply keep end_line take_byte feed fed finish stream_text
sample = refl
