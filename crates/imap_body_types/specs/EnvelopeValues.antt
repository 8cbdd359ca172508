-- What an envelope says, each of its byte strings as a text (RFC 3501, section 9: envelope, address).
use Rattle.std.specs.Prelude.{◌≡◌, List, Option, None, map}
use Rattle.std.specs.Option.{option_map}
use Rattle.std.specs.declared.alloc.Global.{Global}
use Rattle.std.specs.declared.vec.Vec.{Vec}
use Rattle.imap_grammar.specs.Text.{Text}
use Rattle.imap_body_types.specs.declared.shapes.envelopes.Address.{Address}
use Rattle.imap_body_types.specs.declared.shapes.envelopes.Envelope.{Envelope}

pub record AddressValue : Type 0 where
  pub name : Option Text
  pub adl : Option Text
  pub mailbox : Option Text
  pub host : Option Text

abbrev pub address_seen : {B : Type 0} → (B → Text) → Address B → AddressValue
address_seen f a =
    record {
      name = option_map f a.name;
      adl = option_map f a.adl;
      mailbox = option_map f a.mailbox;
      host = option_map f a.host;
    }

-- it holds no text
abbrev pub IsBlank : {B : Type 0} → Address B → Type 0
IsBlank a = (a.name ≡ None) × (a.adl ≡ None) × (a.mailbox ≡ None) × (a.host ≡ None)

abbrev pub addresses_seen :
    {B : Type 0} → (B → Text) → Option (Vec (Address B) Global) → Option (List AddressValue)
addresses_seen f a = option_map (λ v. map (address_seen f) v.items) a

pub record EnvelopeValue : Type 0 where
  pub date : Option Text
  pub subject : Option Text
  pub from : Option (List AddressValue)
  pub sender : Option (List AddressValue)
  pub reply_to : Option (List AddressValue)
  pub to : Option (List AddressValue)
  pub cc : Option (List AddressValue)
  pub bcc : Option (List AddressValue)
  pub in_reply_to : Option Text
  pub message_id : Option Text

unfoldable pub envelope_seen : {B : Type 0} → (B → Text) → Envelope B → EnvelopeValue
envelope_seen f e =
    record {
      date = option_map f e.date;
      subject = option_map f e.subject;
      from = addresses_seen f e.from;
      sender = addresses_seen f e.sender;
      reply_to = addresses_seen f e.reply_to;
      to = addresses_seen f e.to;
      cc = addresses_seen f e.cc;
      bcc = addresses_seen f e.bcc;
      in_reply_to = option_map f e.in_reply_to;
      message_id = option_map f e.message_id;
    }
