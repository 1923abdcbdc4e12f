-- What a C program reads: the number that a call gives back, taken apart as include/gateway.h does it, and the bytes of a
-- list's results or of a comparison's list. A shift to the right by n is the division by 2^n, and n low bits are kept by the remainder by 2^n.
use Rattle.std.specs.Prelude.{ℕ, ◌+◌, ◌*◌, ◌/◌, ◌%◌, ◌^◌, List, eqb, get_or}
use Rattle.rules.specs.Table.{Answer, Vector}
use Rattle.difference_rules.specs.declared.Difference.{Difference}
use Rattle.difference_rules.specs.Comparing.{Differences}
use Rattle.message_format.specs.Reading.{Report}

-- ---- From a number

-- gateway_refusal, of any call's answer
unfoldable pub gateway_refusal : (answer : ℕ) → ℕ
gateway_refusal answer = answer / 2 ^ 48

-- gateway_found, of a lookup's answer as the three that follow
unfoldable pub gateway_found : (answer : ℕ) → ℕ
gateway_found answer = answer / 2 ^ 40 % 2

-- gateway_hop
unfoldable pub gateway_hop : (answer : ℕ) → ℕ
gateway_hop answer = answer / 2 ^ 16 % 2 ^ 16

-- gateway_length
unfoldable pub gateway_length : (answer : ℕ) → ℕ
gateway_length answer = answer / 2 ^ 8 % 2 ^ 8

-- gateway_probes
unfoldable pub gateway_probes : (answer : ℕ) → ℕ
gateway_probes answer = answer % 2 ^ 8

-- gateway_vector, of a match vector's answer
unfoldable pub gateway_vector : (answer : ℕ) → ℕ
gateway_vector answer = answer % 2 ^ 32

-- gateway_count, of a comparison's answer
unfoldable pub gateway_count : (answer : ℕ) → ℕ
gateway_count answer = answer % 2 ^ 32

-- gateway_accepted, of a message's answer as the one that follows
unfoldable pub gateway_accepted : (answer : ℕ) → ℕ
gateway_accepted answer = answer % 2 ^ 12

-- gateway_refused
unfoldable pub gateway_refused : (answer : ℕ) → ℕ
gateway_refused answer = answer / 2 ^ 12 % 2 ^ 12

-- what is so read of a lookup
abbrev pub read_answer : (answer : ℕ) → Answer
read_answer answer =
    record {
      refusal = gateway_refusal answer;
      found = eqb (gateway_found answer) 1;
      hop = gateway_hop answer;
      length = gateway_length answer;
      probes = gateway_probes answer;
    }

-- of a match vector
abbrev pub read_vector : (answer : ℕ) → Vector
read_vector answer = record { refusal = gateway_refusal answer; vector = gateway_vector answer }

-- of a comparison
abbrev pub read_differences : (answer : ℕ) → Differences
read_differences answer = record { refusal = gateway_refusal answer; count = gateway_count answer }

-- and of a message
abbrev pub read_report : (answer : ℕ) → Report
read_report answer = record { refusal = gateway_refusal answer; accepted = gateway_accepted answer; refused = gateway_refused answer }

-- ---- From the bytes of a list

-- the word from a byte on, as x86-64 has it in memory: the low byte first
unfoldable pub word_at : (bytes : List ℕ) (from : ℕ) → ℕ
word_at bytes from = get_or bytes from 0 + get_or bytes (from + 1) 0 * 2 ^ 8 + get_or bytes (from + 2) 0 * 2 ^ 16 + get_or bytes (from + 3) 0 * 2 ^ 24

-- address i
unfoldable pub list_address : (addresses : List ℕ) (i : ℕ) → ℕ
list_address addresses i = word_at addresses (4 * i)

-- found of result i, a struct gateway_result of sixteen bytes, as the three that follow
unfoldable pub found_at : (results : List ℕ) (i : ℕ) → ℕ
found_at results i = word_at results (16 * i)

-- hop
unfoldable pub hop_at : (results : List ℕ) (i : ℕ) → ℕ
hop_at results i = word_at results (16 * i + 4)

-- length
unfoldable pub length_at : (results : List ℕ) (i : ℕ) → ℕ
length_at results i = word_at results (16 * i + 8)

-- probes
unfoldable pub probes_at : (results : List ℕ) (i : ℕ) → ℕ
probes_at results i = word_at results (16 * i + 12)

-- what is so read of result i; it carries no refusal
abbrev pub read_result : (results : List ℕ) (i : ℕ) → Answer
read_result results i =
    record {
      refusal = 0;
      found = eqb (found_at results i) 1;
      hop = hop_at results i;
      length = length_at results i;
      probes = probes_at results i;
    }

-- what is read of difference i, a struct gateway_difference of sixteen bytes
abbrev pub read_difference : (list : List ℕ) (i : ℕ) → Difference
read_difference list i =
    record {
      length = word_at list (16 * i);
      prefix = word_at list (16 * i + 4);
      first = word_at list (16 * i + 8);
      second = word_at list (16 * i + 12);
    }
