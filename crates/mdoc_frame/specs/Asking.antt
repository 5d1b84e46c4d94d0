-- What a run asks of key devices and draws of dice.
use Rattle.std.specs.Prelude.{◌≡◌, ◌⊎◌, ℕ, List, [], ◌++◌}
use Rattle.mdoc_outside.specs.Dealt.{dealt, inner as dice_of}
use Rattle.mdoc_outside.specs.Faults.{Rose}
use Rattle.mdoc_outside.specs.declared.dealt.Dealt.{Dealt}
use Rattle.key_device.specs.Plan.{Finished, End, OutOfWords, OutOfMemory}
use Rattle.key_device.specs.Recording.{inner, talk}
use Rattle.key_device.specs.declared.exchange.Exchange.{Exchange}
use Rattle.key_device.specs.declared.recorder.Recorder.{Recorder}
use Rattle.mdoc_frame.specs.declared.status.Status.{Status}
use Rattle.mdoc_frame.specs.declared.status.Status.TheVariants.{Device, Dice, Memory}

-- The questions to the wallet's device and to the reader's, with what these told, and the words that were dealt, each in
-- order.
pub record Talks : Type 0 where
  pub wallet : List Exchange
  pub reader : List Exchange
  pub words : List ℕ

abbrev pub no_talks : Talks
no_talks = record { wallet = []; reader = []; words = [] }

-- the same with these more
pub record IsGained (old gained new : Talks) : Type 0 where
  pub wallet : new.wallet ≡ old.wallet ++ gained.wallet
  pub reader : new.reader ≡ old.reader ++ gained.reader
  pub words : new.words ≡ old.words ++ gained.words

-- The devices and the dice as a run sees them: the talks, and the counts of faults.
pub record Sources : Type 0 where
  pub talks : Talks
  pub wallet_faults : ℕ
  pub reader_faults : ℕ
  pub dice_faults : ℕ

abbrev pub sources : {D E R : Type 0} → (D → ℕ) → (E → ℕ) → (R → ℕ) → Recorder D → Recorder E → Dealt R → Sources
sources wallet_faults reader_faults dice_faults wallet reader dice = record {
  talks = record { wallet = talk wallet; reader = talk reader; words = dealt dice };
  wallet_faults = wallet_faults (inner wallet);
  reader_faults = reader_faults (inner reader);
  dice_faults = dice_faults (dice_of dice);
}

-- the same of a run that asks the reader's device alone
abbrev pub reader_sources : {E : Type 0} → List Exchange → List ℕ → ℕ → ℕ → (E → ℕ) → Recorder E → Sources
reader_sources wallet words wallet_faults dice_faults reader_faults reader = record {
  talks = record { wallet = wallet; reader = talk reader; words = words };
  wallet_faults = wallet_faults;
  reader_faults = reader_faults (inner reader);
  dice_faults = dice_faults;
}

-- no count of faults rose
pub record AreSame (old new : Sources) : Type 0 where
  pub wallet : new.wallet_faults ≡ old.wallet_faults
  pub reader : new.reader_faults ≡ old.reader_faults
  pub dice : new.dice_faults ≡ old.dice_faults

-- one of the devices' counts did, and the dice's
pub record WalletRose (old new : Sources) : Type 0 where
  pub wallet : Rose old.wallet_faults new.wallet_faults
  pub reader : new.reader_faults ≡ old.reader_faults
  pub dice : new.dice_faults ≡ old.dice_faults

pub record ReaderRose (old new : Sources) : Type 0 where
  pub wallet : new.wallet_faults ≡ old.wallet_faults
  pub reader : Rose old.reader_faults new.reader_faults
  pub dice : new.dice_faults ≡ old.dice_faults

pub record DiceRose (old new : Sources) : Type 0 where
  pub wallet : new.wallet_faults ≡ old.wallet_faults
  pub reader : new.reader_faults ≡ old.reader_faults
  pub dice : Rose old.dice_faults new.dice_faults

-- At most one of the counts rose, and which status then comes; with every other status none did.
abbrev pub AskCauses : Status → Sources → Sources → Type 0
AskCauses Device old new = WalletRose old new ⊎ ReaderRose old new
AskCauses Dice old new = DiceRose old new
AskCauses status old new = AreSame old new

-- a run in which a word wasn't dealt, or memory was wanting
abbrev pub EndsAs : {A : Type 0} → End A → Status → Type 0
EndsAs (Finished result) status = Unit {0}
EndsAs OutOfWords status = status ≡ Dice
EndsAs OutOfMemory status = status ≡ Memory
