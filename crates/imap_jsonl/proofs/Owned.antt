-- An owned response has the JSON of the response that it was made from.
use Rattle.std.proofs.Common.{◌≡◌, Result, Ok, Err, ap, ◌∙◌}
use Rattle.std.specs.Prelude.{IfOk}
use Rattle.std.specs.String.{string_bytes}
use Rattle.std.specs.declared.alloc.AllocError.{AllocError}
use Rattle.std.specs.declared.alloc.Global.{Global}
use Rattle.std.specs.declared.string.String.{String}
use Rattle.serde_json.specs.Written.{compact_text}
use Rattle.imap_proto.specs.Owned.{owned_response}
use Rattle.imap_proto.specs.Responses.{ResponseValue}
use Rattle.imap_proto.proofs.Marks.{owned_is_same}
use Rattle.imap_json.specs.Responses.{json_of}
use Rattle.imap_json.proofs.EqualTexts.{one_text}

pub text_alike : (owned : ResponseValue) (r : Result (String Global) AllocError) → IfOk r (λ text. string_bytes text ≡ compact_text (json_of owned)) → IfOk r (λ text. (v : ResponseValue) → owned ≡ owned_response v → string_bytes text ≡ compact_text (json_of v))
text_alike owned (Ok text) t = λ v is. t ∙ ap (λ r. compact_text (json_of r)) is ∙ one_text (owned_response v) v (owned_is_same v)
text_alike owned (Err e) t = tt
