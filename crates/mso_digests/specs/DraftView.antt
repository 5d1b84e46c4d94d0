-- What contracts see of a draft of a security object.
use Rattle.mso_digests.specs.declared.mso_draft.MsoDraft.{MsoDraft}
use Rattle.mso_digests.specs.Written.{Draft}

abbrev pub fields_of : MsoDraft → Draft
fields_of d = record { doc_type = d.doc_type.now; digests = d.digests.now; device_key = d.device_key; signed = d.signed; from = d.from; until = d.until; update = d.update }
