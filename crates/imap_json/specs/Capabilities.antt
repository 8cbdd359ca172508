-- Capabilities.
use Rattle.std.specs.Prelude.{codes}
use Rattle.serde_json.specs.Data.{Data}
use Rattle.imap_shared.specs.Capabilities.{CapabilityValue, Imap4rev1, Auth, Atom}
use Rattle.imap_json.specs.Forms.{string_json, variant_json}
use Rattle.imap_json.specs.Texts.{text_json}

abbrev pub capability_json : CapabilityValue → Data
capability_json Imap4rev1 = string_json (codes "Imap4rev1")
capability_json (Auth mechanism) = variant_json (codes "Auth") (text_json mechanism)
capability_json (Atom name) = variant_json (codes "Atom") (text_json name)
