-- What contracts see of a wallet's setup.
use Rattle.doc_store.specs.StoreView.{documents_in}
use Rattle.wallet_answer.specs.declared.setup.WalletSetup.{WalletSetup}
use Rattle.wallet_model.specs.Setup.{Setup}

abbrev pub setup_of : WalletSetup → Setup
setup_of s = record {
  store = documents_in s.store.now;
  choice = s.choice.now;
  rules = s.rules.now;
  readers = s.readers.now;
  size = s.size;
  moment = s.moment;
}
