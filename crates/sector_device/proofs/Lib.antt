mod Loss
mod Power
mod Zero
