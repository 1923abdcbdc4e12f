-- Each return is a law of proofs/Records.antt.
use Prim.Native.Nat.{ℕ, ◌+◌}
use mathlib.Core.Path.{◌≡◌, sym, ap, ◌∙◌}
use mathlib.Core.List.{List}
use native.Mathlib.Omega.{arith}
use lib.ListN.{length}
use Rattle.std.specs.Prelude.{Option, Some, None, Result, Ok, Err}
use Rattle.std.proofs.lemmas.Result.{err_from_is_err_and}
use Rattle.rules.specs.declared.Refusal.{Refusal}
use Rattle.rules.specs.declared.Refusal.TheVariants.{Malformed}
use Rattle.message_format.specs.Format.{two_bytes, prefix_from, prefix_fits, after_prefix}
use Rattle.message_cursors.specs.declared.PrefixRead.{PrefixRead}
use Rattle.message_cursors.specs.Steps.{next_prefix, read_prefix}
use Rattle.message_cursors.proofs.Steps.{Moved, prefix_told}
use Rattle.import_format.specs.Routes.{route_from, entries_count, entries_from}
use Rattle.import_readers.specs.Records.{entries_read, record_read}
use Rattle.import_readers.proofs.Records.{with_entries, no_prefix, prefix_unfit, prefix_inside, no_count, by_entries}
use Rattle.import_readers.proofs.read_record.Goals as goal

-- where the prefix that was read ends
ends : (bytes : List ℕ) {read : PrefixRead} → read ≡ read_prefix bytes (record { at = route_from; end = length bytes }) → read.rest.at ≡ after_prefix bytes route_from
unfolding read_prefix
ends bytes is = ap (λ (read : PrefixRead). read.rest.at) is

-- and what it is
own : (bytes : List ℕ) {read : PrefixRead} → read ≡ read_prefix bytes (record { at = route_from; end = length bytes })
    → (read.prefix ≡ (prefix_from bytes route_from).prefix) × (read.length ≡ (prefix_from bytes route_from).length)
unfolding read_prefix
own bytes is = (ap (λ (read : PrefixRead). read.prefix) is, ap (λ (read : PrefixRead). read.length) is)

-- the record, by its entries
by_read : (bytes hops : List ℕ) {read : PrefixRead} {entries : Result (Option ℕ) Refusal} {count : ℕ}
    → Moved (record { at = route_from; end = length bytes }) (prefix_fits bytes route_from (length bytes)) (read_prefix bytes (record { at = route_from; end = length bytes })) read
    → count ≡ two_bytes bytes read.rest.at → entries ≡ entries_read bytes (read.rest.at + 2) count hops
    → record_read bytes hops ≡ with_entries (prefix_from bytes route_from) entries
unfolding entries_from entries_count
by_read bytes hops moved counted is = by_entries _ _ moved.fits ∙ ap (with_entries _) (sym (rw (counted, ends bytes moved.read) at is))

module _ (bytes : List ℕ) {first : Option PrefixRead} (given : Ok first ≡ next_prefix bytes (record { at = 16; end = length bytes })) where
  -- a prefix was read
  moved : {read : PrefixRead} → first ≡ Some read
      → Moved (record { at = route_from; end = length bytes }) (prefix_fits bytes route_from (length bytes)) (read_prefix bytes (record { at = route_from; end = length bytes })) read
  moved is = prefix_told bytes (record { at = 16; end = length bytes }) (omega arith) (sym given ∙ ap Ok is)

  -- nothing is there
  missing : (hops : List ℕ) → first ≡ None → record_read bytes hops ≡ Err Malformed
  missing hops is = no_prefix _ _ (prefix_told bytes (record { at = 16; end = length bytes }) (omega arith) (sym given ∙ ap Ok is))

pub returns-in_err-read : goal.returns-in_err-read
returns-in_err-read c =
    let handed = err_from_is_err_and c.from_residual.result c.from_residual.ensures.1 in
    let told = prefix_told _ (record { at = 16; end = length c.args.bytes.now }) (omega arith) (sym c.in_err-read.ensures) in
    rw (handed.1, handed.2, told.0) (sym (prefix_unfit _ _ told.1.1))

pub returns-in_default : goal.returns-in_default
returns-in_default c = sym (missing _ c.in_ok-read.ensures _ c.in_default.is)

pub overflow_sub-bytes : goal.overflow_sub-bytes
overflow_sub-bytes c =
    let m = moved _ c.in_ok-read.ensures c.in-Some.is in
    rw (ends _ m.read) (prefix_inside _ m.fits)

pub returns-then-bytes-after-lt2 : goal.returns-then-bytes-after-lt2
returns-then-bytes-after-lt2 c =
    let m = moved _ c.in_ok-read.ensures c.in-Some.is in
    sym (no_count _ _ (omega (arith, ends _ m.read, prefix_inside _ m.fits, c.if-bytes-after-lt2.true)))

pub returns-in_err-hop : goal.returns-in_err-hop
unfolding with_entries
returns-in_err-hop c =
    let handed = err_from_is_err_and c.from_residual-in_err-hop.result c.from_residual-in_err-hop.ensures.1 in
    rw (handed.1, handed.2) (sym (by_read _ _ (moved _ c.in_ok-read.ensures c.in-Some.is) c.two_bytes.ensures c.in_err-hop.ensures))

pub returns-in_default-2 : goal.returns-in_default-2
unfolding with_entries
returns-in_default-2 c =
    sym (by_read _ _ (moved _ c.in_ok-read.ensures c.in-Some.is) c.two_bytes.ensures c.in_ok-hop.ensures ∙ ap (λ hop. with_entries (prefix_from c.args.bytes.now route_from) (Ok hop)) c.in_default-2.is)

pub returns : goal.returns
unfolding with_entries
returns c =
    let m = moved _ c.in_ok-read.ensures c.in-Some.is in
    let is = own _ m.read in
    rw (is.0, is.1) (sym (by_read _ _ m c.two_bytes.ensures c.in_ok-hop.ensures ∙ ap (λ hop. with_entries (prefix_from c.args.bytes.now route_from) (Ok hop)) c.in-Some-2.is))
