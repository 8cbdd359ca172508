-- Rights.
use Rattle.std.specs.Prelude.{codes}
use Rattle.serde_json.specs.Data.{Data}
use Rattle.imap_shared.specs.declared.types.rights.AclRight.{AclRight}
use Rattle.imap_shared.specs.declared.types.rights.AclRight.TheVariants.{Lookup, Read, Seen, Write, Insert, Post, CreateMailbox, DeleteMailbox, DeleteMessage, Expunge, Administer, Annotation, OldCreate, OldDelete, Custom}
use Rattle.imap_json.specs.Forms.{string_json, variant_json}
use Rattle.imap_json.specs.Texts.{char_json}

abbrev pub right_json : AclRight → Data
right_json Lookup = string_json (codes "Lookup")
right_json Read = string_json (codes "Read")
right_json Seen = string_json (codes "Seen")
right_json Write = string_json (codes "Write")
right_json Insert = string_json (codes "Insert")
right_json Post = string_json (codes "Post")
right_json CreateMailbox = string_json (codes "CreateMailbox")
right_json DeleteMailbox = string_json (codes "DeleteMailbox")
right_json DeleteMessage = string_json (codes "DeleteMessage")
right_json Expunge = string_json (codes "Expunge")
right_json Administer = string_json (codes "Administer")
right_json Annotation = string_json (codes "Annotation")
right_json OldCreate = string_json (codes "OldCreate")
right_json OldDelete = string_json (codes "OldDelete")
right_json (Custom c) = variant_json (codes "Custom") (char_json c)
