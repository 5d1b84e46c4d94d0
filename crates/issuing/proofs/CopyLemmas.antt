-- Copies are appended one after the other.
use Rattle.std.proofs.Common.{◌≡◌, ◌+◌, ℕ, List, [], ◌∷◌, ◌++◌, length, Result, Ok, refl, sym, ap, subst, ◌∙◌, append_assoc, append-nil, length-append, arith}
use Rattle.std.specs.Prelude.{flat_map}
use Rattle.cbor_view.specs.Shortest.{array_bytes, shortest_head}
use Rattle.key_device.proofs.AllPlanStepLemmas.{all_times_begun, all_times_more}
use Rattle.key_device.specs.Plan.{Plan, Finished, FollowsAll}
use Rattle.key_device.specs.PlanSteps.{times}
use Rattle.key_device.specs.declared.exchange.Exchange.{Exchange}
use Rattle.issuing.specs.Ends.{end_at}
use Rattle.issuing.specs.declared.issue_fault.IssueFault.{IssueFault}
use Rattle.issuing.specs.Appending.{AppendsValue}

-- so many copies were appended, to which the plan of one came as often
pub record SoFar (plan : Plan (Result (List ℕ) IssueFault)) (count : ℕ) (begun now : List ℕ)
    (one other : List Exchange) (dealt : List ℕ) (one' other' : List Exchange) (dealt' : List ℕ) : Type 0 where
  pub written : List (List ℕ)
  pub many : length written ≡ count
  pub appended : now ≡ begun ++ flat_map (λ part. part) written
  pub asked : FollowsAll (times count plan) one other dealt one' other' dealt' (Finished (Ok written))

pub none_yet : (plan : Plan (Result (List ℕ) IssueFault)) (begun : List ℕ) (one other : List Exchange) (dealt : List ℕ) → SoFar plan 0 begun begun one other dealt one other dealt
none_yet plan begun one other dealt = record { written = []; many = refl; appended = sym (append-nil begun); asked = all_times_begun plan one other dealt }

row_more : (parts : List (List ℕ)) (last : List ℕ) → flat_map (λ (part : List ℕ). part) (parts ++ last ∷ []) ≡ flat_map (λ (part : List ℕ). part) parts ++ last
row_more [] last = append-nil last
row_more (part ∷ parts) last = ap (λ (rest : List ℕ). part ++ rest) (row_more parts last) ∙ sym (append_assoc part (flat_map (λ (p : List ℕ). p) parts) last)

pub one_more : {plan : Plan (Result (List ℕ) IssueFault)} {count : ℕ} {begun now : List ℕ} (new : List ℕ) {one other one' other' one'' other'' : List Exchange} {dealt dealt' dealt'' : List ℕ}
    → SoFar plan count begun now one other dealt one' other' dealt' → (copy : List ℕ) → new ≡ now ++ copy
    → FollowsAll plan one' other' dealt' one'' other'' dealt'' (Finished (Ok copy)) → SoFar plan (count + 1) begun new one other dealt one'' other'' dealt''
one_more {plan = plan} {count = count} {begun = begun} new so_far copy appended asked =
    let before = flat_map (λ (part : List ℕ). part) so_far.written in
    let longer = length-append so_far.written (copy ∷ []) in
    let so_many = so_far.many in
    record {
      written = so_far.written ++ copy ∷ [];
      many = omega (arith, longer, so_many);
      appended = appended ∙ ap (λ (b : List ℕ). b ++ copy) so_far.appended ∙ append_assoc begun before copy ∙ ap (λ (rest : List ℕ). begun ++ rest) (sym (row_more so_far.written copy));
      asked = all_times_more plan count copy so_far.asked asked;
    }

-- with their head they are the array of all
pub all_written : {plan : Plan (Result (List ℕ) IssueFault)} {count : ℕ} {begun now : List ℕ} {one other one' other' : List Exchange} {dealt dealt' : List ℕ} (n : ℕ) (old : List ℕ)
    → SoFar plan count begun now one other dealt one' other' dealt' → count ≡ n → begun ≡ old ++ shortest_head 4 n
    → AppendsValue array_bytes (λ (came : Result (List (List ℕ)) IssueFault). FollowsAll (times n plan) one other dealt one' other' dealt' (end_at came)) old now
all_written {plan} {count} {begun} {now} {one} {other} {one'} {other'} {dealt} {dealt'} n old so_far all head =
    let row = flat_map (λ (part : List ℕ). part) so_far.written in
    record {
      value = so_far.written;
      joined = so_far.appended
          ∙ ap (λ (h : List ℕ). h ++ row) head
          ∙ append_assoc old (shortest_head 4 n) row
          ∙ ap (λ (m : ℕ). old ++ (shortest_head 4 m ++ row)) (sym (so_far.many ∙ all));
      asked = subst (λ (m : ℕ). FollowsAll (times m plan) one other dealt one' other' dealt' (Finished (Ok so_far.written))) all so_far.asked;
    }
