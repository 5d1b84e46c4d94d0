-- The device's authentication of a document of which something was chosen.
use Rattle.std.specs.Prelude.{Result}
use Rattle.doc_response.specs.Draft.{Document}
use Rattle.key_device.specs.Plan.{Plan}
use Rattle.key_device.specs.declared.device_fault.DeviceFault.{DeviceFault}
use Rattle.session_seal.specs.Wallet.{WalletSession}
use Rattle.wallet_answer.specs.ChoiceView.{choice_seen}
use Rattle.wallet_answer.specs.declared.released_document.ReleasedDocument.{ReleasedDocument}
use Rattle.wallet_model.specs.Answer.{authenticated}

abbrev pub authenticated_choice : WalletSession → ReleasedDocument → Plan (Result Document DeviceFault)
authenticated_choice session choice = authenticated session (choice_seen choice)
