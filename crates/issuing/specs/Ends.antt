-- How a call of issuing ended, and what its answer says of the counts of faults.
use Rattle.std.specs.Prelude.{◌≡◌, ◌⊎◌, ℕ, Result, Ok, Err}
use Rattle.mdoc_outside.specs.Faults.{Rose}
use Rattle.key_device.specs.Plan.{End, Finished, OutOfWords, OutOfMemory}
use Rattle.issuing.specs.declared.issue_fault.IssueFault.{IssueFault}
use Rattle.issuing.specs.declared.issue_fault.IssueFault.TheVariants.{Device, Dice, Limit, Memory}

-- how a call that may ask and draw ended
abbrev pub end_at : {A : Type 0} → Result A IssueFault → End (Result A IssueFault)
end_at (Ok a) = Finished (Ok a)
end_at (Err Device) = Finished (Err Device)
end_at (Err Dice) = OutOfWords
end_at (Err (Limit passed by)) = Finished (Err (Limit passed by))
end_at (Err Memory) = OutOfMemory

-- The counts of faults of the holder's device, of the issuer's and of the dice, before and after a call: that of the one
-- that failed rose, and the others are the same.
abbrev pub Same : ℕ → ℕ → ℕ → ℕ → ℕ → ℕ → Type 0
Same holder holder' issuer issuer' dice dice' = (holder' ≡ holder) × (issuer' ≡ issuer) × (dice' ≡ dice)

abbrev pub Fails : ℕ → ℕ → ℕ → ℕ → ℕ → ℕ → IssueFault → Type 0
Fails holder holder' issuer issuer' dice dice' Device =
    (Rose holder holder' × (issuer' ≡ issuer) × (dice' ≡ dice)) ⊎ ((holder' ≡ holder) × Rose issuer issuer' × (dice' ≡ dice))
Fails holder holder' issuer issuer' dice dice' Dice = (holder' ≡ holder) × (issuer' ≡ issuer) × Rose dice dice'
Fails holder holder' issuer issuer' dice dice' (Limit passed by) = Same holder holder' issuer issuer' dice dice'
Fails holder holder' issuer issuer' dice dice' Memory = Same holder holder' issuer issuer' dice dice'

abbrev pub Cause : {A : Type 0} → ℕ → ℕ → ℕ → ℕ → ℕ → ℕ → Result A IssueFault → Type 0
Cause holder holder' issuer issuer' dice dice' (Ok a) = Same holder holder' issuer issuer' dice dice'
Cause holder holder' issuer issuer' dice dice' (Err fault) = Fails holder holder' issuer issuer' dice dice' fault
